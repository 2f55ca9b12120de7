use Rattle.ch_graph.proofs.LinksByPlaces.{rise_fall-joined}
use Rattle.ch_graph.proofs.laws.rise_fall_joins.Goals as goal

pub returns : goal.returns
returns c = rise_fall-joined
