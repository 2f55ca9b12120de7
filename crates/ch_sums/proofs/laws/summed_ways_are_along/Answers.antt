use Rattle.ch_sums.proofs.Paths.{summed-along}
use Rattle.ch_sums.proofs.laws.summed_ways_are_along.Goals as goal

pub returns : goal.returns
returns c = summed-along c.paths_are_walks.ensures.walks
