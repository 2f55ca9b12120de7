use Rattle.std.proofs.Common.{rules, arith}
use Rattle.std.proofs.lemmas.Grind.{common_steps}
use Rattle.ch_multiqueue.proofs.multi_queue.MultiQueue.left.Goals as goal

pub returns-clause-sorted : goal.returns-clause-sorted
returns-clause-sorted c = search rules

pub invariant_of-self : goal.invariant_of-self
invariant_of-self c = grind (arith, common_steps) steps 200000

pub invariant_of-self-in_err-copy_into : goal.invariant_of-self-in_err-copy_into
invariant_of-self-in_err-copy_into c = grind (arith, common_steps) steps 200000

pub returns-in_err-copy_into-clause-queue : goal.returns-in_err-copy_into-clause-queue
returns-in_err-copy_into-clause-queue c = grind (arith, common_steps) steps 200000

pub returns-clause-queue : goal.returns-clause-queue
returns-clause-queue c = grind (arith, common_steps) steps 200000
