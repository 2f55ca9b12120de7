use Rattle.std.proofs.Common.{rules}
use Rattle.ch_multiqueue.proofs.better.better_of.Goals as goal

pub returns-else-is_before : goal.returns-else-is_before
returns-else-is_before c = search rules
