use Rattle.std.proofs.Common.{◌+◌, ◌≤◌, length}
use Rattle.ch_witness.specs.Kept.{kept_of, AllNamed, IsKept, IsReadOn}
use Rattle.ch_witness.specs.Tree.{labels_of, IsTree, IsLater, AllSeen, AllAre}
use Rattle.ch_witness.proofs.tree.Tree.grow.Given as goal

abbrev pub invariant-turns : goal.invariant-turns
invariant-turns g l = record {
  tree : IsTree l.fn.rule l.self.steps.items (labels_of l.self.frontier);
  few : length l.self.steps.items ≤ length l.initial.self.steps.items + l.counter;
  later : IsLater l.initial.self.steps.items l.self.steps.items (labels_of l.initial.self.frontier) (labels_of l.self.frontier);
  read : IsReadOn g.S.RowSource.bears (g.S.RowSource.shows l.source) (g.S.RowSource.bound_of l.source) (g.S.RowSource.stays l.initial.source l.source) (kept_of l.initial.rows) (kept_of l.rows);
  kept_rows : AllSeen (IsKept (kept_of l.initial.rows)) l.initial.self.steps.items → AllSeen (IsKept (kept_of l.rows)) l.self.steps.items;
  names : AllNamed (g.S.RowSource.whole l.initial.source) (kept_of l.initial.rows) → AllAre (g.S.RowSource.whole l.initial.source) (labels_of l.initial.self.frontier) → AllNamed (g.S.RowSource.whole l.source) (kept_of l.rows);
  whole : AllNamed (g.S.RowSource.whole l.initial.source) (kept_of l.initial.rows) → AllAre (g.S.RowSource.whole l.initial.source) (labels_of l.initial.self.frontier) → AllAre (g.S.RowSource.whole l.source) (labels_of l.self.frontier);
}
