use Rattle.std.proofs.Common.{◌-◌, ◌≤◌, length}
use Rattle.ch_table.specs.Laying.{AreDown, AreListedTo}
use Rattle.ch_table.proofs.columns.down_to.Given as goal

abbrev pub decreases-ranks : goal.decreases-ranks
decreases-ranks g l = l.nodes - l.low

abbrev pub invariant-ranks : goal.invariant-ranks
invariant-ranks g l = record {
  within : l.low ≤ length l.search.ranks;
  listed : AreListedTo l.search l.targets l.marked.marks.items l.marked.down.ranks.items l.marked.down.steps.tails.items l.low;
  down : AreDown l.search l.marked.down.ranks.items l.marked.down.steps.first.items l.marked.down.steps.tails.items l.marked.down.steps.lengths.items;
}
