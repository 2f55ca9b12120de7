-- Entries that rise, seen one after the other.
use Rattle.std.proofs.Common.{ℕ, ◌≡◌, ◌+◌, ◌-◌, ◌<◌, ◌≤◌, List, length, slice_index_or, sym, subst, ap, arith, inl, inr}
use Rattle.std.proofs.lemmas.Bool.{cases_lt}
use Rattle.std.proofs.lemmas.List.{get_or_default}
use Rattle.ch_laws.specs.declared.entry.Entry.{Entry}

-- the first entries rise
abbrev pub RisesSoFar : List Entry → ℕ → Type 0
RisesSoFar es n = (i j : ℕ) (d : Entry) → i < j → j < n → j < length es → (slice_index_or es i d).other < (slice_index_or es j d).other

pub rises_more : (es : List Entry) (n : ℕ) (x y : Entry) → 1 ≤ n → n < length es → (slice_index_or es (n - 1) x).other < (slice_index_or es n y).other → RisesSoFar es n → RisesSoFar es (n + 1)
rises_more es n x y begun within above rising i j d h k l = elim (cases_lt j n) [
  | inl less ↦ rising i j d h less l
  | inr least ↦ last (omega (arith, least, k))
] where
  above_at : (slice_index_or es (n - 1) d).other < (slice_index_or es n d).other
  above_at = omega (arith, above, ap (λ (e : Entry). e.other) (get_or_default es (n - 1) x d (omega (arith, begun, within))), ap (λ (e : Entry). e.other) (get_or_default es n y d within))

  is_next : n - 1 ≤ i → i < n → n - 1 ≡ i
  is_next a b = omega (arith, a, b)

  at_last : i < n → (slice_index_or es i d).other < (slice_index_or es n d).other
  at_last before = elim (cases_lt i (n - 1)) [
    | inl earlier ↦ omega (arith, above_at, rising i (n - 1) d earlier (omega (arith, begun)) (omega (arith, within)))
    | inr next ↦ subst (λ (m : ℕ). (slice_index_or es m d).other < (slice_index_or es n d).other) (is_next next before) above_at
  ]

  last : j ≡ n → (slice_index_or es i d).other < (slice_index_or es j d).other
  last e = subst (λ (m : ℕ). (slice_index_or es i d).other < (slice_index_or es m d).other) (sym e) (at_last (omega (arith, e, h)))
