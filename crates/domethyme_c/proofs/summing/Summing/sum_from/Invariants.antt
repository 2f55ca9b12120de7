use Rattle.std.proofs.Common.{◌≡◌, ◌≤◌, length}
use Rattle.domethyme_c.specs.Starting.{AreSumsOfStarts}
use Rattle.domethyme_c.specs.Summing.{IsSumming}
use Rattle.domethyme_c.proofs.summing.Summing.sum_from.Given as goal

abbrev pub invariant-starts : goal.invariant-starts
invariant-starts l = record {
  summing : IsSumming l.fn.self.search l.self;
  within : l.at ≤ length l.starts;
  row : length l.row ≡ length l.lengths;
  others : length l.others ≡ length l.lengths;
  sums : AreSumsOfStarts l.fn.self.search l.set l.starts l.added l.at l.selection.targets l.lengths l.sums;
}
