use Rattle.std.proofs.Common.{arith}
use Rattle.std.proofs.lemmas.Grind.{common_steps}
use Rattle.ch_multiqueue.proofs.account.taken_through.Goals as goal

pub passes-preserved : goal.passes-preserved
passes-preserved c = grind (arith, common_steps) steps 600000

pub returns : goal.returns
returns c = grind (arith, common_steps) steps 200000
