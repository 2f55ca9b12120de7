use Rattle.std.proofs.Common.{rules}
use Rattle.ch_check.proofs.ways.is_met.Goals as goal

pub returns : goal.returns
returns c = search rules
