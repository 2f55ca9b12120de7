use Rattle.std.specs.Prelude.{ℕ, List, ◌≡◌, ◌<◌, slice_set, refl}
use Rattle.std.proofs.Common.{sym, ◌∙◌, ap, arith, rules}
use Rattle.std.proofs.lemmas.Bool.Decides.{nat_tests}
use Rattle.std.proofs.lemmas.Grind.{common_steps}
use Rattle.ch_rowbook.proofs.Fronts.{here, raised}
use Rattle.ch_rowbook.proofs.reader.Reader.read.Goals as goal

-- a load through a seat that was split off, joined again
pub returns-clause-front : goal.returns-clause-front
returns-clause-front g c =
    let inside = c.self.inside.seat.me.0.versions in
    let new = c.meet.new.seat.me.0.versions in
    let set_inside : new ≡ slice_set inside c.args.node c.load-version.result = raised inside c.part-ahead.new.seat.me.0.versions c.part-ahead.result.me.0.versions c.load-version.new.seat.me.0.versions new c.args.node c.load-version.result
    c.part-ahead.ensures.same c.part-ahead.ensures.front c.load-version.ensures.front c.meet.ensures.front c.load-version.ensures.rises in
    set_inside ∙ ap (λ (l : List ℕ). slice_set l c.args.node c.load-version.result) c.self.view_is ∙ ap (λ (v : ℕ). slice_set c.args.self.now c.args.node v) (sym c.in_ok-seen.ensures.version)

pub returns-clause-here : goal.returns-clause-here
returns-clause-here g c =
    let ahead = c.load-version.new.seat.me.0.versions in
    let inside = c.self.inside.seat.me.0.versions in
    let new = c.meet.new.seat.me.0.versions in
    let set_inside : new ≡ slice_set inside c.args.node c.load-version.result = raised inside c.part-ahead.new.seat.me.0.versions c.part-ahead.result.me.0.versions ahead new c.args.node c.load-version.result
    c.part-ahead.ensures.same c.part-ahead.ensures.front c.load-version.ensures.front c.meet.ensures.front c.load-version.ensures.rises in
    let less : c.args.node < g.B.Book.book.nodes = grind (arith, nat_tests, c.if-node-deref.false, c.deref.ensures, c.deref.result.now.nodes_is) in
    here inside new c.args.node c.load-version.result _ g.B.Book.book.nodes set_inside c.self.invariant.wide refl less ∙ sym c.in_ok-seen.ensures.version

pub returns-clause-rises : goal.returns-clause-rises
returns-clause-rises g c = search rules

pub returns-in_err-seen-clause-err : goal.returns-in_err-seen-clause-err
returns-in_err-seen-clause-err g c = search rules

pub returns-clause-record : goal.returns-clause-record
returns-clause-record c = grind (arith, common_steps) steps 200000

pub returns-clause-row : goal.returns-clause-row
returns-clause-row c = grind (arith, common_steps) steps 200000
