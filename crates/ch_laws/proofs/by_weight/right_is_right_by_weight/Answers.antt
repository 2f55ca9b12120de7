use Rattle.ch_laws.proofs.ByWeight.{right_is_right_by_weight}
use Rattle.ch_laws.proofs.by_weight.right_is_right_by_weight.Goals as goal

pub returns : goal.returns
returns c = right_is_right_by_weight
