use Rattle.ch_graph.proofs.OneUnfolding.{links_unfold}
use Rattle.ch_graph.proofs.laws.links_unfold.Goals as goal

pub returns : goal.returns
returns c = links_unfold
