use Rattle.std.specs.Prelude.{ℕ, ◌<◌, slice_set}
use Rattle.std.proofs.Common.{sym, subst, ◌∙◌, ap}
use Rattle.boxcar.specs.Table.{Where}
use Rattle.ch_overlay.specs.declared.record.Record.{Record}
use Rattle.ch_rowbook.specs.Books.{PenKeeps, PenView, rows_of, versions_of}
use Rattle.ch_overlay.specs.Records.{recorded_row}
use Rattle.ch_rowbook.proofs.PenKeeps.{map_set, pen_shows}
use Rattle.ch_rowbook.proofs.pen.Pen.show_one.Goals as goal

-- the word and the token are of the record that was laid
pub invariant_of-self : goal.invariant_of-self
invariant_of-self g c =
    let laid = c.args.laid.now in
    let pen = c.self.inside in
    subst (λ (t : Where Record). PenKeeps g.B.Book.book c.store.new.seat pen.next (slice_set pen.current.items laid.node t)) (sym c.again.ensures)
    (pen_shows g.B.Book.book pen.seat c.store.new.seat pen.next pen.current.items laid.node laid.token c.self.invariant c.store.ensures.seat
    (c.store.ensures.words ∙ ap (λ (v : ℕ). slice_set pen.seat.me.0.versions laid.node v) c.version.ensures)
    record { shown = laid.shown; node = laid.node_is; below = subst (λ (v : PenView). laid.token.index < v.next) (sym c.self.view_is) c.requires.laid } laid.within)

pub returns-clause-versions : goal.returns-clause-versions
returns-clause-versions g c =
    let laid = c.args.laid.now in
    let items = c.self.inside.current.items in
    map_set (λ (t : Where Record). t.index) items laid.node c.again.result ∙ ap (λ (t : Where Record). slice_set (versions_of items) laid.node t.index) c.again.ensures
    ∙ ap (λ (v : PenView). slice_set v.versions laid.node laid.token.index) c.self.view_is

pub returns-clause-rows : goal.returns-clause-rows
returns-clause-rows g c =
    let laid = c.args.laid.now in
    let items = c.self.inside.current.items in
    map_set (λ (t : Where Record). recorded_row t.value) items laid.node c.again.result ∙ ap (λ (t : Where Record). slice_set (rows_of items) laid.node (recorded_row t.value)) c.again.ensures
    ∙ ap (λ (v : PenView). slice_set v.rows laid.node (recorded_row laid.token.value)) c.self.view_is
