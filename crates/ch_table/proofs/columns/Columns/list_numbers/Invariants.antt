use Rattle.std.proofs.Common.{slice_index}
use Rattle.ch_table.specs.Selection.{lists_of}
use Rattle.ch_table.specs.Sums.{AreStepNumbersTo}
use Rattle.ch_table.proofs.columns.Columns.list_numbers.Given as goal

abbrev pub invariant-places : goal.invariant-places
invariant-places g l = AreStepNumbersTo l.fn.search l.numbers (lists_of l.self) (slice_index (lists_of l.self).first l.place) l.listed
