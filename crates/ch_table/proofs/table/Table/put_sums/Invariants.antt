use Rattle.std.proofs.Common.{ℕ, ◌≡◌, List, length}
use Rattle.ch_query.specs.declared.seed.Seed.{Seed}
use Rattle.ch_query.specs.Seeds.{AreSeeds}
use Rattle.ch_query.specs.Ways.{IsWay}
use Rattle.ch_table.specs.Labels.{AreLabels, lane_of}
use Rattle.ch_table.specs.Sums.{HaveSums, IsSumFromAny}
use Rattle.ch_table.proofs.Rows.{IsRowTo}
use Rattle.ch_table.proofs.table.Table.put_sums.Given as goal

abbrev pub invariant-targets : goal.invariant-targets
invariant-targets g l = record {
  room : length l.row ≡ length l.initial.row;
  row : (all : List ℕ) (starts : ℕ → List Seed) → AreSeeds l.self.hierarchy.now (starts l.lane) → AreLabels (IsWay l.self.hierarchy.now (starts l.lane) l.self.bound) l.self.bound l.self.columns.now.ranks.items (lane_of l.labels l.lane)
      → HaveSums l.self.hierarchy.now all starts l.self.bound l.self.columns.now.ranks.items g.row.N l.labels l.sums
      → IsRowTo (IsSumFromAny l.self.hierarchy.now all (starts l.lane) l.self.bound) l.self.columns.now.targets.items l.from l.initial.row l.row l.place;
}
