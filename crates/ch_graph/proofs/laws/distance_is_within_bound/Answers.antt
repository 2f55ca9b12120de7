use Rattle.ch_graph.proofs.Distances.{distance_within_bound}
use Rattle.ch_graph.proofs.laws.distance_is_within_bound.Goals as goal

pub returns : goal.returns
returns c = distance_within_bound
