use Rattle.std.proofs.Common.{arith}
use Rattle.std.proofs.lemmas.Grind.{common_steps}
use Rattle.hierfile.proofs.taken.marks_of.Goals as goal

pub ranks-init : goal.ranks-init
ranks-init c = grind (arith, common_steps) steps 200000

pub ranks-preserved : goal.ranks-preserved
ranks-preserved c = grind (arith, common_steps)
