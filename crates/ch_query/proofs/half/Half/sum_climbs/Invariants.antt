use Rattle.std.proofs.Common.{◌≡◌, length}
use Rattle.ch_query.proofs.ClimbSums.{AreSummedTo}
use Rattle.ch_query.proofs.half.Half.sum_climbs.Given as goal

abbrev pub invariant-climbs : goal.invariant-climbs
invariant-climbs l = record {
  room : length l.sums ≡ length l.self.hierarchy.now.ranks;
  done : AreSummedTo l.self.hierarchy.now l.numbers l.self.seeds.now l.marks l.climbs l.climbed-index l.sums;
}
