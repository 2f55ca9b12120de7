use Rattle.std.proofs.Common.{arith}
use Rattle.std.proofs.lemmas.Grind.{common_steps}
use Rattle.ch_rowbook.proofs.pen.places_of.Goals as goal

pub tokens-preserved : goal.tokens-preserved
tokens-preserved c = grind (arith, common_steps)
