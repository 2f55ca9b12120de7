use Rattle.ch_route.proofs.RoutesAreLeast.{found-none}
use Rattle.ch_route.proofs.router.RouterOf.least_route.Goals as goal

pub returns-in_default-clause-found : goal.returns-in_default-clause-found
returns-in_default-clause-found g c =
    found-none _ c.args.self.now c.args.pair.0 c.args.pair.1 c.in_ok-found.field-0 c.self.view_is c.in_default.is c.in_ok-found.ensures.value
