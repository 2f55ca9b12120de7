use Rattle.std.proofs.Common.{ℕ, ◌≡◌, length}
use Rattle.ch_table.specs.Labels.{HaveLanes, lane_of}
use Rattle.ch_table.specs.Sums.{AreRaisedSums, AreSmallSums}
use Rattle.ch_table.proofs.table.Table.raise_sums.Given as goal

abbrev pub invariant-climbs : goal.invariant-climbs
invariant-climbs g l = record {
  lanes : HaveLanes (length l.self.columns.now.ranks.items) g.row.N l.sums;
  small : AreSmallSums (length l.self.hierarchy.now.ranks) l.self.columns.now.ranks.items l.sums;
  raised : AreRaisedSums l.self.columns.now.ranks.items l.climbs l.climbed-index l.kept (lane_of l.sums l.lane);
  others : (j p : ℕ) → (j ≡ l.lane → ⊥) → lane_of l.sums j p ≡ lane_of l.initial.sums j p;
}
