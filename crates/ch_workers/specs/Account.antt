-- When the receipts that workers hold account for the log of a board.
use Rattle.std.specs.Prelude.{ℕ, ◌≡◌, ◌≢◌, ◌<◌, List, Bool, true, false, flat_map, All, AllPairs, Contains, slice_index_or}
use Rattle.ch_laws.specs.Contraction.{Contraction}
use Rattle.ch_contract.specs.declared.contraction.Receipt.{Receipt}
use Rattle.ch_contract.specs.Ledger.{receipt_of}

-- the receipts of all lists, one list behind the other
abbrev pub all_of : List (List Receipt) → List Receipt
all_of lists = flat_map (λ receipts. receipts) lists

-- each receipt is of a lower rank than those behind it
abbrev pub Rises : List Receipt → Type 0
Rises receipts = AllPairs (λ a b. a.rank < b.rank) receipts

-- the receipt was issued for an entry of the log
pub record IsOfLog (log : List Contraction) (r : Receipt) : Type 0 where
  pub entry : Contraction
  pub within : Contains log entry
  pub handed : r ≡ receipt_of entry

-- The lists account for the log: each entry has its receipt in one of the lists, no two receipts have one rank, each
-- receipt is of an entry, and each list rises. So the receipt of an entry is in exactly one place of exactly one list.
pub record IsAccount (log : List Contraction) (lists : List (List Receipt)) : Type 0 where
  pub each : (e : Contraction) → Contains log e → Contains (all_of lists) (receipt_of e)
  pub once : AllPairs (λ a b. a.rank ≢ b.rank) (all_of lists)
  pub only : (r : Receipt) → Contains (all_of lists) r → IsOfLog log r
  pub rising : All Rises lists

-- The work of the test. Contracts of private functions alone cite it.

-- the receipts are of entries of the log, each of another one
pub record AreApart (log : List Contraction) (receipts : List Receipt) : Type 0 where
  pub once : AllPairs (λ a b. a.rank ≢ b.rank) receipts
  pub only : (r : Receipt) → Contains receipts r → IsOfLog log r

-- the receipts are such, and the marks that are set are those of their ranks
pub record AreMarked (log : List Contraction) (receipts : List Receipt) (marks : List Bool) : Type 0 where
  pub apart : AreApart log receipts
  pub set : (r : Receipt) → Contains receipts r → slice_index_or marks r.rank false ≡ true
  pub known : (k : ℕ) → slice_index_or marks k false ≡ true → (r : Receipt) × Contains receipts r × (r.rank ≡ k)
