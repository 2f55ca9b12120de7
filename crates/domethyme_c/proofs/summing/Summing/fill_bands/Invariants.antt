use Rattle.std.proofs.Common.{◌≡◌, ◌-◌, ◌*◌, ◌≤◌, length}
use Rattle.domethyme_c.specs.Summing.{IsSumming}
use Rattle.domethyme_c.specs.Sums.{AreCells, IsCellOf}
use Rattle.domethyme_c.proofs.summing.Summing.fill_bands.Given as goal

abbrev pub invariant-bands : goal.invariant-bands
invariant-bands l = record {
  summing : IsSumming l.fn.self.search l.self;
  within : l.done ≤ length l.sources;
  lengths : length l.lengths ≡ length l.fn.lengths;
  sums : length l.sums ≡ length l.fn.sums;
  cells : AreCells (l.done * length l.selection.targets) (IsCellOf l.fn.self.search l.set l.sources l.selection.targets) l.fn.cells l.cells;
}

abbrev pub decreases-bands : goal.decreases-bands
decreases-bands l = length l.sources - l.done
