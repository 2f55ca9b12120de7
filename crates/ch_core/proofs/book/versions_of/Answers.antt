use Rattle.std.proofs.Common.{arith}
use Rattle.std.proofs.lemmas.Grind.{common_steps}
use Rattle.ch_core.proofs.book.versions_of.Goals as goal

pub returns : goal.returns
returns c = grind (arith, common_steps) steps 200000

pub rows-preserved : goal.rows-preserved
rows-preserved c = grind (arith, common_steps) steps 200000
