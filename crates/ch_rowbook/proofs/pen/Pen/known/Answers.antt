use Rattle.std.specs.Prelude.{◌≡◌, ◌<◌, All, length}
use Rattle.std.proofs.Common.{subst, ◌∙◌}
use Rattle.std.proofs.lemmas.List.{length-map}
use Rattle.boxcar.specs.Table.{Where}
use Rattle.ch_overlay.specs.declared.record.Record.{Record}
use Rattle.ch_rowbook.specs.Books.{PenView}
use Rattle.ch_rowbook.proofs.PenKeeps.{all_below}
use Rattle.ch_rowbook.proofs.pen.Pen.known.Goals as goal

pub returns-clause-count : goal.returns-clause-count
returns-clause-count g c =
    let pen = c.self.inside in
    subst (λ (v : PenView). length v.versions ≡ g.B.Book.book.nodes) c.self.view_is (length-map pen.current.items (λ (t : Where Record). t.index) ∙ c.self.invariant.count)

pub returns-clause-below : goal.returns-clause-below
returns-clause-below g c =
    let pen = c.self.inside in
    subst (λ (v : PenView). All (λ n. n < v.next) v.versions) c.self.view_is (all_below g.B.Book.book pen.seat pen.next pen.current.items c.self.invariant)
