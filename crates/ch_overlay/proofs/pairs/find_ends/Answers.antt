use Rattle.std.proofs.Common.{arith}
use Rattle.std.proofs.lemmas.Grind.{common_steps}
use Rattle.ch_overlay.proofs.pairs.find_ends.Goals as goal

pub pairs-preserved : goal.pairs-preserved
pairs-preserved c = grind (arith, common_steps) steps 200000
