use Rattle.std.proofs.Common.{ℕ, ◌≡◌, ◌<◌, length}
use Rattle.ch_table.specs.Labels.{HaveLanes, far, lane_of}
use Rattle.ch_table.proofs.Raising.{AreRaised}
use Rattle.ch_table.proofs.table.Table.raise.Given as goal

abbrev pub invariant-climbs : goal.invariant-climbs
invariant-climbs g l = record {
  lanes : HaveLanes (length l.self.columns.now.ranks.items) g.row.N l.labels;
  raised : ((p : ℕ) → p < length l.self.columns.now.ranks.items → lane_of l.initial.labels l.lane p ≡ far l.self.bound) → AreRaised (far l.self.bound) l.self.columns.now.ranks.items l.climbs l.climbed-index (lane_of l.labels l.lane);
  others : (j p : ℕ) → (j ≡ l.lane → ⊥) → lane_of l.labels j p ≡ lane_of l.initial.labels j p;
}
