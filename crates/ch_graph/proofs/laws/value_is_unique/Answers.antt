use Rattle.ch_graph.proofs.Distances.{value_unique}
use Rattle.ch_graph.proofs.laws.value_is_unique.Goals as goal

pub returns : goal.returns
returns c = value_unique
