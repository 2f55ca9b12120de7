use Rattle.std.proofs.Common.{arith}
use Rattle.ch_multiqueue.proofs.multi_queue.MultiQueue.into_closed.Goals as goal

pub returns-in-Ok-Some-clause-closed : goal.returns-in-Ok-Some-clause-closed
returns-in-Ok-Some-clause-closed c = cc

pub returns-in-Ok-None-clause-ended : goal.returns-in-Ok-None-clause-ended
returns-in-Ok-None-clause-ended c = record { left = tt; missing = grind (arith); queue = cc; passes = cc }
