use Rattle.std.proofs.Common.{rules}
use Rattle.ch_multiqueue.proofs.multi_queue.MultiQueue.pop.Goals as goal

pub returns-clause-refused : goal.returns-clause-refused
returns-clause-refused g c = search rules

pub returns-in_err-item-clause-refused : goal.returns-in_err-item-clause-refused
returns-in_err-item-clause-refused g c = search rules

pub returns-clause-taken : goal.returns-clause-taken
returns-clause-taken g c = search rules

pub returns-in-Some-2-clause-taken : goal.returns-in-Some-2-clause-taken
returns-in-Some-2-clause-taken g c = search rules
