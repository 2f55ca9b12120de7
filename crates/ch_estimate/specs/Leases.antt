-- Leases: the count of those that are out, and what the holders of its seats know.
use Rattle.std.specs.Prelude.{ℕ, ◌≡◌, ◌≢◌, ◌+◌, ◌-◌, ◌%◌, ◌^◌, ◌<◌, ◌≤◌, List, [], ◌∷◌, length, slice_index}
use mathlib.Core.Option.{some}
use lib.ListN.{get_elem?}
use Rattle.atomic_table.specs.Table.{State, Me, Step}
use Rattle.atomic_table.specs.Seated.{TableId}
use Rattle.atomic_table.specs.declared.shared.Seat.{Seat}
use Rattle.ch_estimate.specs.declared.counted.KnownCount.{KnownCount}

-- which count of leases it is
abbrev pub CountId : Type 0
CountId = TableId

-- leases of one count: which count it is, and that at most this many are out
pub record Group : Type 0 where
  pub count : CountId
  pub out : ℕ

abbrev pub known : ℕ → ℕ → KnownCount
known bound out = record { bound = bound; out = out }

-- all that the views have of the count
abbrev pub all_out : List KnownCount → ℕ
all_out [] = 0
all_out (v ∷ views) = v.out + all_out views

-- The rule: there is one word, which is the sum of what the views have of it, modulo 2^64, and the first seat's
-- view bounds that sum.
pub record Keeps (s : State (Unit {0}) KnownCount) : Type 0 where
  pub wide : length s.words ≡ 1
  pub counts : slice_index s.words 0 ≡ all_out s.views % 2 ^ 64
  pub below : (v : KnownCount) → get_elem? s.views 0 ≡ some v → all_out s.views ≤ v.bound

-- one more is counted
abbrev pub adds : Step (Unit {0}) → Me (Unit {0}) KnownCount → ℕ → Me (Unit {0}) KnownCount → Type 0
adds step before found after = after ≡ (known (before.0.bound + 1) (before.0.out + 1), before.1)

-- one is returned
abbrev pub gives : Step (Unit {0}) → Me (Unit {0}) KnownCount → ℕ → Me (Unit {0}) KnownCount → Type 0
gives step before found after = after ≡ (known before.0.bound (before.0.out - 1), before.1)

-- a count of zero is read: none is out
abbrev pub finds : Step (Unit {0}) → Me (Unit {0}) KnownCount → ℕ → Me (Unit {0}) KnownCount → Type 0
finds step before found after = (found ≡ 0 → after ≡ (known 0 before.0.out, before.1)) × (found ≢ 0 → after ≡ before)

-- the first seat of a count, which knows that at most this many are out
pub record IsFirst (count : CountId) (out : ℕ) (seat : Seat (Unit {0}) KnownCount) : Type 0 where
  pub words : count.words ≡ 1
  pub of : seat.table_id ≡ count
  pub first : seat.id ≡ 0
  pub knows : seat.me ≡ (known out 0, [])

-- the seat of a lease that is out
pub record IsOut (count : CountId) (seat : Seat (Unit {0}) KnownCount) : Type 0 where
  pub words : count.words ≡ 1
  pub of : seat.table_id ≡ count
  pub knows : seat.me ≡ (known 0 1, [])

-- as long as it is less than 2^64 - 1, the number is that of the leases; else there are that many or more
abbrev pub Tells : ℕ → ℕ → Type 0
Tells made out = made < 18446744073709551615 → out ≡ made
