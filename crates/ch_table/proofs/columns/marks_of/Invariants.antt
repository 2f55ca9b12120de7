use Rattle.std.proofs.Common.{◌≡◌, length, take, All}
use Rattle.ch_graph.specs.Hierarchy.{rank_of}
use Rattle.ch_table.specs.Laying.{IsMarked}
use Rattle.ch_table.proofs.columns.marks_of.Given as goal

abbrev pub invariant-targets : goal.invariant-targets
invariant-targets l = record {
  nodes : length l.marks.items ≡ length l.hierarchy.ranks;
  ends : All (λ t. IsMarked l.marks.items (rank_of l.hierarchy t)) (take l.target-index l.targets);
}
