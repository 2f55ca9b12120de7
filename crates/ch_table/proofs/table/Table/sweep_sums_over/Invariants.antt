use Rattle.std.proofs.Common.{ℕ, ◌≡◌, ◌-◌, ◌<◌, List, length}
use Rattle.ch_query.specs.declared.seed.Seed.{Seed}
use Rattle.ch_query.specs.declared.side.Side.TheVariants.{Rise}
use Rattle.ch_query.specs.Ways.{IsClimb, IsWay}
use Rattle.ch_table.specs.Labels.{AreLabels, AreSmall, AreSwept, HaveLanes, lane_of}
use Rattle.ch_table.specs.Selection.{lists_of}
use Rattle.ch_table.specs.Sums.{AreSmallSums, AreStepNumbers, HaveSums}
use Rattle.ch_table.proofs.table.Table.sweep_sums_over.Given as goal

abbrev pub invariant-places : goal.invariant-places
invariant-places g l = record {
  lanes : HaveLanes l.count g.row.N l.labels;
  count : l.count ≡ length l.self.columns.now.ranks.items;
  small : AreSmall l.self.bound l.labels;
  swept : (starts : List Seed) (lane : ℕ) → lane < g.row.N → AreLabels (IsClimb l.self.hierarchy.now Rise starts l.self.bound) l.self.bound l.self.columns.now.ranks.items (lane_of l.initial.labels lane)
      → AreSwept (IsWay l.self.hierarchy.now starts l.self.bound) (IsClimb l.self.hierarchy.now Rise starts l.self.bound) l.self.bound l.self.columns.now.ranks.items (lane_of l.labels lane) (l.count - l.done);
  sums : HaveLanes l.count g.row.N l.sums;
  small_sums : AreSmallSums (length l.self.hierarchy.now.ranks) l.self.columns.now.ranks.items l.sums;
  summed : (all : List ℕ) (starts : ℕ → List Seed) → AreStepNumbers l.self.hierarchy.now all (lists_of l.self.columns.now) l.numbers → HaveSums l.self.hierarchy.now all starts l.self.bound l.self.columns.now.ranks.items g.row.N l.initial.labels l.initial.sums
      → HaveSums l.self.hierarchy.now all starts l.self.bound l.self.columns.now.ranks.items g.row.N l.labels l.sums;
}
