use Rattle.std.proofs.lemmas.Grind.{common_steps}
use Rattle.std.proofs.Common.{rules, arith}
use Rattle.ch_rowbook.proofs.pen.Pen.see.Goals as goal

pub returns-clause-node : goal.returns-clause-node
returns-clause-node g c = search rules

pub returns-clause-current : goal.returns-clause-current
returns-clause-current g c = grind (arith, common_steps)

pub returns-clause-version : goal.returns-clause-version
returns-clause-version g c = grind (arith, common_steps)
