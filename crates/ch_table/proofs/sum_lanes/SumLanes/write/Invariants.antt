use Rattle.ch_table.specs.Lengths.{AreRows, IsLengthFrom}
use Rattle.ch_table.specs.Sums.{IsSumFrom}
use Rattle.ch_table.proofs.sum_lanes.SumLanes.write.Given as goal

abbrev pub invariant-rows : goal.invariant-rows
invariant-rows g l = record {
  rows : AreRows (IsLengthFrom l.fn.search) l.sources l.columns.targets.items l.from l.lane l.initial.rows l.rows;
  sums : AreRows (IsSumFrom l.fn.search l.numbers) l.sources l.columns.targets.items l.from l.lane l.initial.sums l.sums;
}
