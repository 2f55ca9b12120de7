use Rattle.std.proofs.Common.{ℕ, ◌≡◌, ◌<◌, ◌≤◌, All, length, map, take, slice_index_or}
use Rattle.std.specs.Arc.{arc_value}
use Rattle.boxcar.specs.Table.{Where}
use Rattle.ch_overlay.specs.declared.record.Record.{Record}
use Rattle.ch_overlay.specs.Records.{recorded_row}
use Rattle.ch_rowbook.specs.Books.{versions_of}
use Rattle.ch_rowbook.specs.Showing.{IsNextOf, IsRecordOf, IsRising, laid_row, next_behind, of_node}
use Rattle.ch_rowbook.proofs.pen.Pen.lay_all.Given as goal

-- the rows so far are laid, at versions that rise from the first next one
abbrev pub invariant-loop-at : goal.invariant-loop-at
invariant-loop-at g l = record {
  versions : l.self.versions ≡ l.initial.self.versions;
  rows : l.self.rows ≡ l.initial.self.rows;
  below : All (λ v. v < l.initial.self.next) l.initial.self.versions;
  laid : map (λ x. of_node x.node (recorded_row x.token.value)) l.all.items ≡ map (λ a. of_node a.0 (arc_value a.1)) (take l.at l.rows);
  later : l.initial.self.next ≤ l.self.next;
  next : IsNextOf g.B.Book.book.list l.initial.self.next l.self.next;
  count : length (map (λ x. x.token) l.all.items) ≡ l.at;
  earlier : (j : ℕ) (d : Where Record) → j < l.at → IsRecordOf g.B.Book.book.list (laid_row (map (λ a. of_node a.0 (arc_value a.1)) l.rows) j) (slice_index_or (map (λ x. x.token) l.all.items) j d);
  behind : l.self.next ≡ next_behind l.initial.self.next (versions_of (map (λ x. x.token) l.all.items));
  rising : IsRising l.initial.self.next (map (λ x. x.token.index) l.all.items) l.self.next;
}
