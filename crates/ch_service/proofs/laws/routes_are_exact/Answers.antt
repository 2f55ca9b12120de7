use Rattle.ch_graph.specs.declared.version.Version.TheVariants.{One, Two}
use Rattle.ch_service.specs.Answer.{IsLeastWalk, IsFewestWalk}
use Rattle.ch_service.proofs.ByHierarchies.{walk-right, walk-right_by_weight, prepared-routes}
use Rattle.ch_service.proofs.laws.routes_are_exact.Goals as goal

pub returns-clause-exact : goal.returns-clause-exact
returns-clause-exact c =
    prepared-routes Two {Is = IsLeastWalk} c.hierarchies_have_one_spelling.ensures c.spelled_graphs_are_in_range.ensures c.spelled_pairs_are_in_range.ensures (walk-right c.routes_are_least.ensures.fewest)

pub returns-clause-fewest : goal.returns-clause-fewest
returns-clause-fewest c =
    prepared-routes Two {Is = IsFewestWalk} c.hierarchies_have_one_spelling.ensures c.spelled_graphs_are_in_range.ensures c.spelled_pairs_are_in_range.ensures c.routes_are_least.ensures.fewest

pub returns-clause-by_weight : goal.returns-clause-by_weight
returns-clause-by_weight c =
    prepared-routes One {Is = IsLeastWalk} c.hierarchies_have_one_spelling.ensures c.spelled_graphs_are_in_range.ensures c.spelled_pairs_are_in_range.ensures (walk-right_by_weight c.routes_are_least.ensures.by_weight)
