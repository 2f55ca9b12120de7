use Rattle.std.proofs.Common.{◌≡◌, ◌<◌, List, [], length, arith, ap, sym, subst, refl, ◌∙◌}
use Rattle.std.proofs.lemmas.List.{get_or_read}
use Rattle.std.proofs.lemmas.Grind.{common_steps}
use Rattle.ch_core.specs.World.{World, RowVersion, View, Standing, IsIn, stands_at, view_of}
use Rattle.ch_core.proofs.Views.{world_read}
use Rattle.ch_core.proofs.world.World.read.Goals as goal

pub returns-in_default-clause-step : goal.returns-in_default-clause-step
returns-in_default-clause-step c =
    let book_is = c.as_slice.ensures.value ∙ ap (λ (w : World). w.book) c.self.view_is in
    let none = rw c.in_default.is at c.in_ok-found.ensures in
    (λ may. none may.row (subst (λ (book : List RowVersion). IsIn book c.args.node c.args.version may.row) (sym book_is) may.listed), refl)

pub invariant_of-self-2 : goal.invariant_of-self-2
invariant_of-self-2 c =
    let w : World = record { ledger = c.self.inside.ledger; book = c.self.inside.book.items; views = c.self.inside.views.items } in
    let t : Standing = c.in-Some.row in
    let inside : c.args.worker < length w.views = omega (arith, c.len.ensures, c.self.inside.views.ok) in
    let found = rw c.in-Some.is at c.in_ok-found.ensures in
    let in_book : IsIn w.book c.args.node c.args.version t.row = subst (λ (book : List RowVersion). IsIn book c.args.node c.args.version t.row) c.as_slice.ensures.value found.1 in
    let listed : IsIn w.book c.args.node t.version t.row = subst (λ v. IsIn w.book c.args.node v t.row) (sym found.0) in_book in
    let view_is : c.index_mut-view.result.now ≡ view_of w c.args.worker = get_or_read w.views c.args.worker c.index_mut-view.result.now inside c.index_mut-view.ensures.value [] in
    world_read w c.args.worker c.put.new.self inside c.args.node t listed c.in_ok-put.ensures.shown
    (λ x apart. c.in_ok-put.ensures.others x apart ∙ ap (λ (v : View). stands_at v x) view_is) c.self.invariant

pub invariant_of-self : goal.invariant_of-self
invariant_of-self c = grind (arith, common_steps)
