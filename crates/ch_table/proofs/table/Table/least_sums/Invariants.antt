use Rattle.std.proofs.Common.{ℕ, ◌≡◌, ◌+◌, ◌-◌, ◌*◌, ◌^◌, ◌<◌, ◌≤◌, List, length, slice_index}
use Rattle.ch_query.specs.declared.seed.Seed.{Seed}
use Rattle.ch_query.specs.declared.side.Side.TheVariants.{Rise}
use Rattle.ch_query.specs.Ways.{IsClimb, IsWay}
use Rattle.ch_table.specs.Labels.{AreSwept, IsLabel, far, lane_of}
use Rattle.ch_table.specs.Selection.{IsLaidDown, lists_of}
use Rattle.ch_table.specs.Sums.{AreStepNumbers, HaveSums, IsPlaceSummed}
use Rattle.ch_table.proofs.LeastWays.{Comes}
use Rattle.ch_table.proofs.table.Table.least_sums.Given as goal

abbrev pub invariant-steps : goal.invariant-steps
invariant-steps g l = record {
  from : slice_index (lists_of l.self.columns.now).first l.place ≤ l.at;
  within : l.at ≤ l.end;
  end : l.end ≡ slice_index (lists_of l.self.columns.now).first (l.place + 1);
  count : length l.least ≡ g.row.N;
  small : (lane : ℕ) → slice_index l.least lane ≤ far l.self.bound;
  least : (starts : List Seed) (lane : ℕ) → lane < g.row.N
      → AreSwept (IsWay l.self.hierarchy.now starts l.self.bound) (IsClimb l.self.hierarchy.now Rise starts l.self.bound) l.self.bound l.self.columns.now.ranks.items (lane_of l.labels lane) (l.place + 1)
      → (laid : IsLaidDown l.self.hierarchy.now l.self.columns.now.ranks.items (lists_of l.self.columns.now).first (lists_of l.self.columns.now).tails (lists_of l.self.columns.now).lengths l.place)
      → IsLabel (Comes l.self.hierarchy.now starts l.self.bound (slice_index l.self.columns.now.ranks.items l.place) laid.are.links (l.at - slice_index (lists_of l.self.columns.now).first l.place)) l.self.bound (slice_index l.least lane);
  sum_count : length l.own ≡ g.row.N;
  small_sums : (lane : ℕ) → slice_index l.own lane ≤ (length l.self.hierarchy.now.ranks + (length l.self.hierarchy.now.ranks - slice_index l.self.columns.now.ranks.items l.place)) * 2 ^ 36;
  summed : (all : List ℕ) (starts : ℕ → List Seed) → AreStepNumbers l.self.hierarchy.now all (lists_of l.self.columns.now) l.numbers → HaveSums l.self.hierarchy.now all starts l.self.bound l.self.columns.now.ranks.items g.row.N l.labels l.sums
      → IsPlaceSummed l.self.hierarchy.now all starts l.self.bound (slice_index l.self.columns.now.ranks.items l.place) g.row.N l.least l.own;
}
