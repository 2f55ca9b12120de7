use Rattle.ch_laws.proofs.LeastRoutes.{bounds_fit}
use Rattle.ch_laws.proofs.routes.bounds_fit.Goals as goal

pub returns : goal.returns
returns c = bounds_fit
