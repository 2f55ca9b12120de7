use Rattle.ch_route.proofs.RoutesAreLeast.{routes-fewest, routes-least, lengths-least, lengths-least-by_weight, none-too_long, none-too_long-by_weight, lengths-between, lengths-within, none-too_long-between, none-too_long-between-by_weight, routes-between-by_weight, routes-between-fewest, routes-between-least}
use Rattle.ch_route.proofs.laws.routes_are_least.Goals as goal

pub returns-clause-fewest : goal.returns-clause-fewest
returns-clause-fewest c = routes-fewest c.least_route_is_a_least_walk.ensures

pub returns-clause-by_weight : goal.returns-clause-by_weight
returns-clause-by_weight c = routes-least c.route_is_a_shortest_walk.ensures

pub returns-clause-lengths : goal.returns-clause-lengths
returns-clause-lengths c = lengths-least c.right_is_right_by_weight.ensures

pub returns-clause-lengths_by_weight : goal.returns-clause-lengths_by_weight
returns-clause-lengths_by_weight c = lengths-least-by_weight

pub returns-clause-never_long : goal.returns-clause-never_long
returns-clause-never_long c = none-too_long c.least_route_is_never_too_long.ensures

pub returns-clause-never_long_by_weight : goal.returns-clause-never_long_by_weight
returns-clause-never_long_by_weight c = none-too_long-by_weight c.route_by_weight_is_never_too_long.ensures

pub returns-clause-between : goal.returns-clause-between
returns-clause-between c = routes-between-least c.right_is_right_by_weight.ensures (routes-fewest c.least_route_is_a_least_walk.ensures)

pub returns-clause-between_fewest : goal.returns-clause-between_fewest
returns-clause-between_fewest c = routes-between-fewest c.right_is_right_by_weight.ensures (routes-fewest c.least_route_is_a_least_walk.ensures)

pub returns-clause-between_by_weight : goal.returns-clause-between_by_weight
returns-clause-between_by_weight c = routes-between-by_weight (routes-least c.route_is_a_shortest_walk.ensures)

pub returns-clause-between_lengths : goal.returns-clause-between_lengths
returns-clause-between_lengths c = lengths-between

pub returns-clause-within_lengths : goal.returns-clause-within_lengths
returns-clause-within_lengths c = lengths-within

pub returns-clause-between_never_long : goal.returns-clause-between_never_long
returns-clause-between_never_long c = none-too_long-between c.right_is_right_by_weight.ensures (none-too_long c.least_route_is_never_too_long.ensures)

pub returns-clause-between_never_long_by_weight : goal.returns-clause-between_never_long_by_weight
returns-clause-between_never_long_by_weight c = none-too_long-between-by_weight (none-too_long-by_weight c.route_by_weight_is_never_too_long.ensures)
