use Rattle.std.proofs.Common.{◌≤◌, length}
use Rattle.domethyme_c.specs.Starting.{AreTaken}
use Rattle.domethyme_c.proofs.summing.take_sums.Given as goal

abbrev pub invariant-places : goal.invariant-places
invariant-places l = record {
  within : l.place ≤ length l.lengths;
  taken : AreTaken l.lengths l.row l.others l.start l.added l.place l.fn.sums l.sums;
}
