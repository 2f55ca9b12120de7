use Rattle.std.proofs.Common.{◌≡◌, drop, length, map}
use Rattle.ch_overlay.specs.Change.{puts}
use Rattle.ch_overlay.specs.Records.{recorded_row}
use Rattle.ch_rowbook.specs.Showing.{IsShowable, of_node}
use Rattle.ch_rowbook.proofs.pen.Pen.show_all.Given as goal

-- what is left to show leads to what all lead to
abbrev pub invariant-loop-at : goal.invariant-loop-at
invariant-loop-at g l = record {
  versions : puts l.self.versions (map (λ x. (x.node, x.token.index)) (drop l.at l.laid)) ≡ puts l.initial.self.versions (map (λ x. (x.node, x.token.index)) l.laid);
  rows : puts l.self.rows (map (λ x. of_node x.node (recorded_row x.token.value)) (drop l.at l.laid)) ≡ puts l.initial.self.rows (map (λ x. of_node x.node (recorded_row x.token.value)) l.laid);
  count : length l.self.versions ≡ g.B.Book.book.nodes;
  next : l.self.next ≡ l.initial.self.next;
  showable : IsShowable l.self.versions l.self.next (map (λ x. x.token.index) (drop l.at l.laid));
}
