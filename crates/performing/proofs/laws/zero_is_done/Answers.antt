use Rattle.performing.proofs.StatusOfOutcome.{zero_done}
use Rattle.performing.proofs.laws.zero_is_done.Goals as goal

pub returns : goal.returns
returns c = zero_done
