use Rattle.std.proofs.Common.{◌≡◌, List, length}
use Rattle.ch_query.specs.declared.seed.Seed.{Seed}
use Rattle.ch_query.specs.Seeds.{AreSeeds}
use Rattle.ch_query.specs.Ways.{IsWay}
use Rattle.ch_table.specs.Labels.{AreLabels, lane_of}
use Rattle.ch_table.specs.Lengths.{IsLengthFromAny}
use Rattle.ch_table.proofs.Rows.{IsRowTo}
use Rattle.ch_table.proofs.table.Table.put.Given as goal

abbrev pub invariant-targets : goal.invariant-targets
invariant-targets g l = record {
  room : length l.row ≡ length l.initial.row;
  row : (starts : List Seed) → AreSeeds l.self.hierarchy.now starts → AreLabels (IsWay l.self.hierarchy.now starts l.self.bound) l.self.bound l.self.columns.now.ranks.items (lane_of l.labels l.lane)
      → IsRowTo (IsLengthFromAny l.self.hierarchy.now starts l.self.bound) l.self.columns.now.targets.items l.from l.initial.row l.row l.place;
}
