use Rattle.std.proofs.Common.{◌≡◌, ◌+◌, ◌≤◌, slice_index}
use Rattle.ch_table.specs.Selection.{lists_of}
use Rattle.ch_table.specs.Sums.{AreStepNumbersTo}
use Rattle.ch_table.proofs.columns.Columns.list_numbers_of.Given as goal

abbrev pub invariant-steps : goal.invariant-steps
invariant-steps g l = record {
  from : slice_index (lists_of l.self).first l.place ≤ l.at;
  within : l.at ≤ l.end;
  end : l.end ≡ slice_index (lists_of l.self).first (l.place + 1);
  to : AreStepNumbersTo l.fn.search l.numbers (lists_of l.self) l.at l.listed;
}
