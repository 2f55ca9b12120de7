use Rattle.std.proofs.Common.{rules, arith}
use Rattle.std.proofs.lemmas.Grind.{common_steps}
use Rattle.ch_overlay.proofs.merge.MergeIterator.next.Goals as goal

pub returns-then-old-new-clause-goes : goal.returns-then-old-new-clause-goes
returns-then-old-new-clause-goes c = search rules

pub returns-then-old-new-clause-steps : goal.returns-then-old-new-clause-steps
returns-then-old-new-clause-steps c = search rules

pub returns-in_err-old-clause-steps : goal.returns-in_err-old-clause-steps
returns-in_err-old-clause-steps c = grind (arith, common_steps) steps 200000
