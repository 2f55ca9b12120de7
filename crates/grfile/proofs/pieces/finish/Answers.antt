use Rattle.std.proofs.Common.{arith}
use Rattle.std.proofs.lemmas.Grind.{common_steps}
use Rattle.grfile.proofs.pieces.finish.Goals as goal

pub returns-clause-refused : goal.returns-clause-refused
returns-clause-refused c = grind (arith, common_steps) steps 200000

pub returns-in-Some-clause-refused : goal.returns-in-Some-clause-refused
returns-in-Some-clause-refused c = grind (arith, common_steps) steps 200000

pub returns-in-Some-clause-told : goal.returns-in-Some-clause-told
returns-in-Some-clause-told c = grind (arith, common_steps) steps 200000

pub returns-then-is_empty-clause-refused : goal.returns-then-is_empty-clause-refused
returns-then-is_empty-clause-refused c = grind (arith, common_steps) steps 200000

pub returns-then-is_empty-clause-told : goal.returns-then-is_empty-clause-told
returns-then-is_empty-clause-told c = grind (arith, common_steps) steps 200000
