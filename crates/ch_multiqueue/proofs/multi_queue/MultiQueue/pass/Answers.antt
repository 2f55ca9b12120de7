use Rattle.std.proofs.Common.{rules}
use Rattle.ch_multiqueue.proofs.multi_queue.MultiQueue.pass.Goals as goal

pub returns-clause-pass : goal.returns-clause-pass
returns-clause-pass c = search rules
