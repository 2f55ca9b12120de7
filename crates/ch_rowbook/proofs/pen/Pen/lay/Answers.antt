use Rattle.std.specs.Prelude.{◌<◌, slice_index}
use Rattle.std.proofs.Common.{subst, arith, rules}
use Rattle.ch_rowbook.specs.Books.{PenView, versions_of}
use Rattle.ch_rowbook.proofs.PenKeeps.{current_below}
use Rattle.ch_rowbook.proofs.pen.Pen.lay.Goals as goal

-- the place isn't below the next version, which is above all
pub returns-clause-above : goal.returns-clause-above
returns-clause-above g c =
    let pen = c.self.inside in
    let below : slice_index (versions_of pen.current.items) c.args.node < pen.next = current_below g.B.Book.book pen.seat pen.next pen.current.items c.args.node c.self.invariant c.requires.within in
    let place = c.in_ok-token.ensures.place in
    subst (λ (v : PenView). slice_index v.versions c.args.node < c.in_ok-token.token.index) c.self.view_is (omega (arith, below, place))

pub returns-clause-next : goal.returns-clause-next
returns-clause-next g c = search rules
