use Rattle.ch_graph.proofs.Dijkstra.{settled_is_least}
use Rattle.ch_graph.proofs.laws.settled_is_least.Goals as goal

pub returns : goal.returns
returns c = settled_is_least
