use Rattle.ch_graph.specs.declared.version.Version.TheVariants.{One, Two}
use Rattle.ch_service.proofs.ByHierarchies.{walk-right, walk-right_by_weight, right-routes}
use Rattle.ch_service.proofs.laws.right_routes_are_least.Goals as goal

pub returns-clause-least : goal.returns-clause-least
returns-clause-least c = right-routes Two (walk-right c.routes_are_least.ensures.fewest)

pub returns-clause-by_weight : goal.returns-clause-by_weight
returns-clause-by_weight c = right-routes One (walk-right_by_weight c.routes_are_least.ensures.by_weight)
