use Rattle.ch_query.proofs.LeastSum.{stop_right}
use Rattle.ch_query.proofs.laws.labels_are_right.Goals as goal

pub returns : goal.returns
returns c = stop_right
