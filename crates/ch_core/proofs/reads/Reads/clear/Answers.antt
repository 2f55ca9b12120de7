use Rattle.std.proofs.Common.{rules}
use Rattle.ch_core.proofs.reads.Reads.clear.Goals as goal

pub returns : goal.returns
returns c = search rules
