use Rattle.grfile.proofs.LinesToText.{pairs_exact}
use Rattle.grfile.proofs.laws.pairs_are_spelled_exactly.Goals as goal

pub returns : goal.returns
returns c = pairs_exact
