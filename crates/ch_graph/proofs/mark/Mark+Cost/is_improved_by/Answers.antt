use Rattle.std.proofs.Common.{arith}
use Rattle.std.proofs.lemmas.Grind.{common_steps}
use Rattle.ch_graph.proofs.mark.Mark+Cost.is_improved_by.Goals as goal

pub returns-in-Open : goal.returns-in-Open
returns-in-Open c = grind (arith, common_steps)
