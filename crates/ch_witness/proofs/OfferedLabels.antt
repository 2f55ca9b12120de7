-- What an offer does to the labels.
use Rattle.std.proofs.Common.{ℕ, ◌≡◌, ◌≢◌, ◌⊎◌, false, true, Option, Some, None, refl, subst, inl, inr}
use Rattle.ch_cost.specs.declared.cost.Cost.{Cost}
use Rattle.ch_cost.specs.Cost.{◌≼◌}
use Rattle.ch_cost.specs.Cost.Laws.{cases_cost, at_most-from_below}
use Rattle.ch_witness.specs.declared.label.Label.{Label}
use Rattle.ch_witness.specs.Tree.{Labels, IsSettled, IsAtMost}
use Rattle.ch_witness.specs.Frontier.{Improves, IsOffered}
use Rattle.ch_witness.proofs.SomeValues.{some-same}

open_or_settled : (l : Label) → (l.settled ≡ true) ⊎ (l.settled ≡ false)
open_or_settled l = elim l.settled as (λ b. (b ≡ true) ⊎ (b ≡ false)) [ true ↦ inl refl | false ↦ inr refl ]

not_better : (o : Option Label) (c : Cost) → (Improves c o → ⊥) → IsSettled o ⊎ IsAtMost o c
not_better None c no_better = absurd (no_better tt)
not_better (Some l) c no_better = elim (open_or_settled l) [
  | inl s ↦ inl s
  | inr o ↦ elim (cases_cost c l.cost) [
    | inl below ↦ absurd (no_better (o, below))
    | inr most ↦ inr most
  ]
]

better : (o : Option Label) (c : Cost) → Improves c o → (l : Label) → o ≡ Some l → (l.settled ≡ false) × (c ≼ l.cost)
better None c h l e = absurd (cc)
better (Some k) c h l e = subst (λ (m : Label). (m.settled ≡ false) × (c ≼ m.cost)) (some-same k l e) (h.0, at_most-from_below h.1)

-- nothing is written where the way isn't better
pub offer_none : (labels : Labels) (v : ℕ) (c : Cost) (step : Option ℕ) → (Improves c (labels v) → ⊥) → IsOffered labels v c step labels
offer_none labels v c step no_better = record { others = λ u apart. refl; here = inr (refl, not_better (labels v) c no_better) }

-- the node is opened where it is
pub offer_better : (old new : Labels) (v : ℕ) (c : Cost) (step : Option ℕ) → Improves c (old v) → new v ≡ Some (record { cost = c; before = step; settled = false }) → ((u : ℕ) → u ≢ v → new u ≡ old u) → IsOffered old v c step new
offer_better old new v c step improves here others = record { others = others; here = inl (here, better (old v) c improves) }

-- the label of the start
abbrev pub begun : Cost → Option Label
begun c = Some (record { cost = c; before = None; settled = true })
