use Rattle.ch_laws.proofs.LeastRoutes.{never_too_long}
use Rattle.ch_laws.proofs.routes.least_route_is_never_too_long.Goals as goal

pub returns : goal.returns
returns c = never_too_long
