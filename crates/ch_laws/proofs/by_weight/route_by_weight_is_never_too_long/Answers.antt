use Rattle.ch_laws.proofs.ByWeight.{never_too_long_by_weight}
use Rattle.ch_laws.proofs.by_weight.route_by_weight_is_never_too_long.Goals as goal

pub returns : goal.returns
returns c = never_too_long_by_weight
