use Rattle.std.proofs.Common.{rules}
use Rattle.grfile.proofs.pairs.pair_in_range.Goals as goal

pub returns : goal.returns
returns c = search rules
