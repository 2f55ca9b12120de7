use Rattle.grfile.proofs.LinesToText.{graphs_exact}
use Rattle.grfile.proofs.laws.graphs_are_spelled_exactly.Goals as goal

pub returns : goal.returns
returns c = graphs_exact
