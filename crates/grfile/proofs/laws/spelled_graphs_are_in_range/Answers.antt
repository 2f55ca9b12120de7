use Rattle.grfile.proofs.LinesToText.{graph_sound}
use Rattle.grfile.proofs.laws.spelled_graphs_are_in_range.Goals as goal

pub returns : goal.returns
returns c = graph_sound
