-- Each distance is within the bound, and there is one distance, and one value, at most.
use Rattle.std.proofs.Common.{◌≡◌, Option, Some, None, ap, refl, inl, inr}
use Rattle.ch_cost.specs.declared.cost.Cost.{Cost}
use Rattle.ch_cost.specs.Cost.Laws.{at_most_antisym, below_not_at_most}
use Rattle.ch_graph.specs.Walk.{IsLeastOrNone}
use Rattle.ch_graph.specs.Limits.{DistanceIsWithinBound}
use Rattle.ch_graph.specs.Limits.Laws.{within_or_cheaper}
use Rattle.ch_graph.specs.Hierarchy.{HasRiseFall, ValueIsUnique}

-- so a distance is within the bound, since nothing is cheaper than it
pub distance_within_bound : DistanceIsWithinBound
distance_within_bound g s t c is distance = elim (within_or_cheaper g is distance.0) [
  | inl within ↦ within
  | inr less ↦ absurd (below_not_at_most less.below (distance.1 less.cost less.walk))
]

-- there is one least cost, or none
pub least_unique : (P : Cost → Type 0) (a b : Option Cost) → IsLeastOrNone P a → IsLeastOrNone P b → a ≡ b
least_unique P (Some c) (Some d) least other = ap (λ (e : Cost). Some e) (at_most_antisym (least.1 d other.0) (other.1 c least.0))
least_unique P (Some c) None least none_is = absurd (none_is c least.0)
least_unique P None (Some d) none_is least = absurd (none_is d least.0)
least_unique P None None none_is other = refl

pub value_unique : ValueIsUnique
value_unique h s t a b first second = least_unique (HasRiseFall h s t) a b first second
