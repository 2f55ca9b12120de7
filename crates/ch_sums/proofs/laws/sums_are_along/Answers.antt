use Rattle.ch_sums.proofs.Paths.{sums-along}
use Rattle.ch_sums.proofs.laws.sums_are_along.Goals as goal

pub returns : goal.returns
returns c = sums-along c.paths_are_walks.ensures.walks
