use Rattle.std.proofs.Common.{ℕ, ◌≡◌, ◌<◌, map, take, length, slice_index_or}
use Rattle.std.specs.Arc.{arc_value}
use Rattle.boxcar.specs.Table.{Where}
use Rattle.ch_laws.specs.Rows.{row_at}
use Rattle.ch_overlay.specs.declared.record.Record.{Record}
use Rattle.ch_rowbook.specs.Books.{AreOf, rows_of, versions_of}
use Rattle.ch_rowbook.specs.Showing.{IsRecordOf, next_behind, of_node}
use Rattle.ch_rowbook.proofs.opening.lay_rows.Given as goal

-- the rows so far are laid
abbrev pub invariant-loop-node : goal.invariant-loop-node
invariant-loop-node g l = (length l.current.items ≡ l.node) × AreOf g.B.Book.book.list l.next l.node l.current.items × (rows_of l.current.items ≡ map arc_value (take l.node l.rows))
    × ((j : ℕ) (d : Where Record) → j < l.node → IsRecordOf g.B.Book.book.list (of_node j (row_at (map arc_value l.rows) j)) (slice_index_or l.current.items j d))
    × (l.next ≡ next_behind 0 (versions_of l.current.items))
