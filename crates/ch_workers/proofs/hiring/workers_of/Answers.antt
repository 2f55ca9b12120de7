use Rattle.std.proofs.Common.{arith}
use Rattle.std.proofs.lemmas.Grind.{common_steps}
use Rattle.ch_workers.proofs.hiring.workers_of.Goals as goal

pub workers-preserved : goal.workers-preserved
workers-preserved c = grind (arith, common_steps) steps 800000

pub workers-smaller : goal.workers-smaller
workers-smaller c = grind (arith, common_steps) steps 800000
