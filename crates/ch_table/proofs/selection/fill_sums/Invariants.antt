use Rattle.std.proofs.Common.{◌≡◌, ◌-◌, ◌≤◌, length}
use Rattle.ch_table.specs.Lengths.{AreRows, IsLengthFrom}
use Rattle.ch_table.specs.Sums.{IsSumFrom}
use Rattle.ch_table.proofs.selection.fill_sums.Given as goal

abbrev pub invariant-blocks-2 : goal.invariant-blocks-2
invariant-blocks-2 g l = record {
  search : l.search ≡ l.fn.search;
  kept : length l.kept ≡ length l.fn.search.ranks;
  within : l.done ≤ length l.sources;
  rows : AreRows (IsLengthFrom l.fn.search) l.sources l.columns.targets.items 0 l.done l.initial.rows l.rows;
  sums : AreRows (IsSumFrom l.fn.search l.numbers) l.sources l.columns.targets.items 0 l.done l.initial.sums l.sums;
}

abbrev pub decreases-blocks-2 : goal.decreases-blocks-2
decreases-blocks-2 g l = length l.sources - l.done
