use Rattle.ch_graph.specs.declared.version.Version.TheVariants.{One, Two}
use Rattle.ch_service.proofs.ByHierarchies.{walk-right, walk-right_by_weight, first-routes}
use Rattle.ch_service.proofs.laws.first_routes_are_exact.Goals as goal

pub returns-clause-exact : goal.returns-clause-exact
returns-clause-exact c = first-routes Two c.hierarchies_have_one_spelling.ensures c.spelled_graphs_are_in_range.ensures c.spelled_pairs_are_in_range.ensures (walk-right c.routes_are_least.ensures.fewest)

pub returns-clause-by_weight : goal.returns-clause-by_weight
returns-clause-by_weight c = first-routes One c.hierarchies_have_one_spelling.ensures c.spelled_graphs_are_in_range.ensures c.spelled_pairs_are_in_range.ensures (walk-right_by_weight c.routes_are_least.ensures.by_weight)
