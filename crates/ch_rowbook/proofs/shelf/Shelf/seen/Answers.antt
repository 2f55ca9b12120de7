use Rattle.std.proofs.Common.{subst, sym}
use Rattle.ch_cost.specs.declared.cost.Cost.{Cost}
use Rattle.ch_laws.specs.Rows.{Row}
use Rattle.ch_overlay.specs.Records.{IsSoundRow, recorded_row}
use Rattle.ch_rowbook.proofs.BoundOfRows.{marked_is}
use Rattle.ch_rowbook.proofs.shelf.Shelf.seen.Goals as goal

-- each record of the list has a row that can be relied on
pub returns-clause-row : goal.returns-clause-row
returns-clause-row g c =
    let shelf = c.args.self.now in
    let sound = subst (λ (b : Cost). IsSoundRow b c.in-Some.record.now.node (recorded_row c.in-Some.record.now)) (marked_is shelf.list.tag shelf.bound g.B.Book.book.bound shelf.mark shelf.bound_is) c.in-Some.ensures.kept in
    subst (λ (r : Row). IsSoundRow g.B.Book.book.bound c.in-Some.record.now.node r) (sym c.in_ok-row.ensures) sound
