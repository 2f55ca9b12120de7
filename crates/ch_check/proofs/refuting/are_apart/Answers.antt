use Rattle.ch_check.proofs.Tests.{not_both, same_options}
use Rattle.ch_check.proofs.refuting.are_apart.Goals as goal

pub returns : goal.returns
returns c = λ differ equal. not_both c.ne.ensures (same_options equal) differ
