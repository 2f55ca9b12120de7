use Rattle.ch_table.specs.Lengths.{AreRows, IsLengthFrom}
use Rattle.ch_table.proofs.lanes.Lanes.write.Given as goal

abbrev pub invariant-rows : goal.invariant-rows
invariant-rows g l = AreRows (IsLengthFrom l.fn.search) l.sources l.columns.targets.items l.from l.lane l.initial.rows l.rows
