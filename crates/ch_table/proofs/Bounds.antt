-- The bounds of rows are small enough.
use Rattle.std.proofs.Common.{ℕ, ◌≡◌, ◌≤◌, ◌^◌, [], ◌∷◌, ◌<◌, length, ap, sym, subst, arith}
use Rattle.ch_cost.specs.declared.cost.Cost.{Cost}
use Rattle.ch_cost.specs.Cost.{length_of, of_walk, IsInLimit, IsSummable}
use Rattle.ch_cost.specs.Cost.Laws.{cost_of_arcs_in_limit, in_limit-from_within, summable-from_in_limit}
use Rattle.ch_cost.specs.Cost.Numbers.{arcs_of-of_walk, length_of-of_walk, lengths-in_limit, summable-from_numbers}
use Rattle.ch_graph.specs.Hierarchy.{Hierarchy, IsWellMade}
use Rattle.ch_query.specs.declared.seed.Seed.{Seed}
use Rattle.ch_query.specs.Seeds.{AreSeeds}
use Rattle.ch_query.specs.Seeds.Laws.{seed-node, seeds-none, seeds-cons}
use Rattle.ch_query.specs.Ways.{free}

-- that of a hierarchy
pub own-bound : (h : Hierarchy) → IsWellMade h → (bound : Cost) → bound ≡ h.bound → IsSummable bound × (length_of bound ≤ 2 ^ 62)
own-bound h made bound is =
    let limit : IsInLimit h.bound = in_limit-from_within made.bound (cost_of_arcs_in_limit _ _ (omega (arith, made.few_nodes)) (omega arith)) in
    (subst IsSummable (sym is) (summable-from_in_limit limit), omega (arith, ap length_of is, lengths-in_limit h.bound limit))

-- and a limit
pub walk-bound : (limit : ℕ) (bound : Cost) → bound ≡ of_walk limit 0 → limit ≤ 2 ^ 62 → IsSummable bound × (length_of bound ≤ 2 ^ 62)
walk-bound limit bound is low = (
  subst IsSummable (sym is) (summable-from_numbers (of_walk limit 0) (omega (arith, length_of-of_walk limit 0, low)) (omega (arith, arcs_of-of_walk limit 0))),
  omega (arith, ap length_of is, length_of-of_walk limit 0, low),
)

-- one start at no cost
pub free-start : (h : Hierarchy) (s : ℕ) (start : Seed) → start ≡ free s → s < length h.ranks → AreSeeds h (start ∷ [])
free-start h s start is low = subst (λ (p : Seed). AreSeeds h (p ∷ [])) (sym is) (seeds-cons h (free s) [] (seed-node h s low) (seeds-none h))
