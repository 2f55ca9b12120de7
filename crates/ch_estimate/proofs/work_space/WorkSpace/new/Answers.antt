use Rattle.std.proofs.Common.{rules}
use Rattle.ch_estimate.proofs.work_space.WorkSpace.new.Goals as goal

pub returns : goal.returns
returns c = search rules
