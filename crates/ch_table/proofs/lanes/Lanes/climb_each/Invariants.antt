use Rattle.std.proofs.Common.{◌≡◌, [], ◌∷◌, length, slice_index}
use Rattle.ch_query.specs.Ways.{free}
use Rattle.ch_table.specs.Labels.{AreRaisedTo, HaveLanes}
use Rattle.ch_table.proofs.lanes.Lanes.climb_each.Given as goal

abbrev pub invariant-lanes : goal.invariant-lanes
invariant-lanes g l = record {
  search : l.search ≡ l.fn.search;
  lanes : HaveLanes (length l.columns.ranks.items) g.row.N l.self.labels.items;
  raised : AreRaisedTo l.fn.search (λ j. free (slice_index l.sources j) ∷ []) l.bound l.columns.ranks.items g.row.N l.self.labels.items l.lane;
}
