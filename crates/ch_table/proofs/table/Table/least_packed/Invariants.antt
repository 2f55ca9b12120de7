use Rattle.std.proofs.Common.{ℕ, ◌≡◌, ◌+◌, ◌-◌, ◌/◌, ◌%◌, ◌<◌, ◌≤◌, List, length, slice_index}
use Rattle.ch_query.specs.declared.seed.Seed.{Seed}
use Rattle.ch_query.specs.declared.side.Side.TheVariants.{Rise}
use Rattle.ch_query.specs.Ways.{IsClimb, IsWay}
use Rattle.ch_table.specs.Labels.{AreSwept, IsLabel, far, lane_of}
use Rattle.ch_table.specs.Selection.{IsLaidDown, lists_of}
use Rattle.ch_table.specs.Packed.{IsWon}
use Rattle.ch_table.proofs.LeastWays.{Comes}
use Rattle.ch_table.proofs.table.Table.least_packed.Given as goal

abbrev pub invariant-steps : goal.invariant-steps
invariant-steps g l = record {
  from : slice_index (lists_of l.self.columns.now).first l.place ≤ l.at;
  within : l.at ≤ l.end;
  end : l.end ≡ slice_index (lists_of l.self.columns.now).first (l.place + 1);
  begin : l.begin ≡ slice_index (lists_of l.self.columns.now).first l.place;
  count : length l.packed ≡ g.row.N;
  small : (lane : ℕ) → slice_index l.packed lane / 1024 ≤ far l.self.bound;
  low : (lane : ℕ) → slice_index l.packed lane % 1024 + slice_index (lists_of l.self.columns.now).first l.place ≤ l.at;
  won : (lane : ℕ) → lane < g.row.N → IsWon (lists_of l.self.columns.now) (lane_of l.labels lane) l.place l.at (slice_index l.packed lane);
  least : (starts : List Seed) (lane : ℕ) → lane < g.row.N
      → AreSwept (IsWay l.self.hierarchy.now starts l.self.bound) (IsClimb l.self.hierarchy.now Rise starts l.self.bound) l.self.bound l.self.columns.now.ranks.items (lane_of l.labels lane) (l.place + 1)
      → (laid : IsLaidDown l.self.hierarchy.now l.self.columns.now.ranks.items (lists_of l.self.columns.now).first (lists_of l.self.columns.now).tails (lists_of l.self.columns.now).lengths l.place)
      → IsLabel (Comes l.self.hierarchy.now starts l.self.bound (slice_index l.self.columns.now.ranks.items l.place) laid.are.links (l.at - slice_index (lists_of l.self.columns.now).first l.place)) l.self.bound (slice_index l.packed lane / 1024);
}
