use Rattle.std.proofs.Common.{arith}
use Rattle.std.proofs.lemmas.Grind.{common_steps}
use Rattle.ch_graph.proofs.link_halves.KeptHalves.parts.Goals as goal

pub returns : goal.returns
returns c = grind (arith, common_steps)
