use Rattle.std.proofs.Common.{arith}
use Rattle.std.proofs.lemmas.Grind.{common_steps}
use Rattle.ch_multiqueue.proofs.account.put_through.Goals as goal

pub returns-in_err-extend_from_slice : goal.returns-in_err-extend_from_slice
returns-in_err-extend_from_slice c = grind (arith, common_steps) steps 600000

pub passes-preserved : goal.passes-preserved
passes-preserved c = grind (arith, common_steps) steps 600000

pub returns : goal.returns
returns c = grind (arith, common_steps) steps 200000
