use Rattle.std.proofs.Common.{◌≡◌, [], ◌∷◌, length, slice_index}
use Rattle.ch_query.specs.Ways.{free}
use Rattle.ch_table.specs.Labels.{AreRaisedTo, HaveLanes}
use Rattle.ch_table.specs.Sums.{AreSmallSums, HaveSums}
use Rattle.ch_table.proofs.sum_lanes.SumLanes.climb_each.Given as goal

abbrev pub invariant-lanes : goal.invariant-lanes
invariant-lanes g l = record {
  search : l.search ≡ l.fn.search;
  kept : length l.kept ≡ length l.fn.search.ranks;
  lanes : HaveLanes (length l.columns.ranks.items) g.row.N l.self.lanes.labels.items;
  sums : HaveLanes (length l.columns.ranks.items) g.row.N l.self.sums.items;
  small_sums : AreSmallSums (length l.fn.search.ranks) l.columns.ranks.items l.self.sums.items;
  raised : AreRaisedTo l.fn.search (λ j. free (slice_index l.sources j) ∷ []) l.bound l.columns.ranks.items g.row.N l.self.lanes.labels.items l.lane;
  summed : HaveSums l.fn.search l.numbers (λ j. free (slice_index l.sources j) ∷ []) l.bound l.columns.ranks.items g.row.N l.self.lanes.labels.items l.self.sums.items;
}
