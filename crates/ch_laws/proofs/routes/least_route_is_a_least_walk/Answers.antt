use Rattle.ch_laws.proofs.LeastRoutes.{route_is_least}
use Rattle.ch_laws.proofs.routes.least_route_is_a_least_walk.Goals as goal

pub returns : goal.returns
returns c = route_is_least
