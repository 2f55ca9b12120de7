-- The pairs of an arc into a node and one out of it.
use Rattle.std.proofs.Common.{ℕ, zero, suc, ◌≡◌, ◌≢◌, ◌<◌, ◌⊎◌, List, [], ◌∷◌, length, map, Option, Some, None, slice_index, ap, arith, inl, inr}
use Rattle.std.specs.List.{slice_get}
use Rattle.ch_cost.specs.declared.cost.Cost.{Cost}
use Rattle.ch_cost.specs.Cost.{◌⊕◌, ◌≼◌, IsWithin}
use Rattle.ch_cost.specs.Cost.Laws.{cases_cost, lengths-from_below}
use Rattle.ch_cost.specs.Cost.Numbers.{arcs-from_within, lengths-from_within}
use Rattle.ch_laws.specs.declared.entry.Entry.{Entry}
use Rattle.ch_laws.specs.declared.shortcut.Shortcut.{Shortcut}

-- the pair that the two arcs join, with what they cost together
abbrev pub over : Entry → Entry → Shortcut
over into out = record { from = into.other; to = out.other; cost = into.cost ⊕ out.cost }

-- the pair of the two arcs, or none where they are heavy together or join a node with itself
abbrev pub IsPairOf : Cost → Entry → Entry → Option Shortcut → Type 0
IsPairOf bound into out None = (into.other ≡ out.other) ⊎ (IsWithin (into.cost ⊕ out.cost) bound → ⊥)
IsPairOf bound into out (Some p) = (into.other ≢ out.other) × IsWithin (into.cost ⊕ out.cost) bound × (p ≡ over into out)

-- where there is none, the arcs join a node with itself or are heavy
pub no_pair : (bound : Cost) (into out : Entry) → IsPairOf bound into out None → into.other ≢ out.other → IsWithin (into.cost ⊕ out.cost) bound → ⊥
no_pair bound into out none apart within = elim none [
  | inl same ↦ apart same
  | inr heavy ↦ heavy within
]

-- the node to which a pair leads, by its place
pub target_at : (pairs : List Shortcut) (k : ℕ) (p : Shortcut) → slice_get pairs k ≡ Some p → (k < length (map (λ (q : Shortcut). q.to) pairs)) × (slice_index (map (λ (q : Shortcut). q.to) pairs) k ≡ p.to)
target_at [] k p is = absurd (cc)
target_at (q ∷ pairs) zero p is = (omega arith, ap (λ (o : Option Shortcut). to_of o) is) where
  to_of : Option Shortcut → ℕ
  to_of None = 0
  to_of (Some s) = s.to
target_at (q ∷ pairs) (suc k) p is = let rest = target_at pairs k p is in (omega (arith, rest.0), rest.1)

-- a cost within a bound is at most the bound
pub at_most-from_within : (c bound : Cost) → IsWithin c bound → c ≼ bound
at_most-from_within c bound within = elim (cases_cost bound c) [
  | inl below ↦ absurd (omega (arith, lengths-from_below bound c below (arcs-from_within c bound within), lengths-from_within c bound within))
  | inr most ↦ most
]
