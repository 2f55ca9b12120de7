use Rattle.std.proofs.Common.{◌≡◌, ◌∙◌, List, length, ap, subst, sym}
use Rattle.ch_query.specs.declared.mark_list.Touched.{Touched}
use Rattle.ch_query.specs.Touched.{marks_in, ArePlaces}
use Rattle.ch_query.proofs.SeenNodes.{none_listed}
use Rattle.ch_query.proofs.mark_list.MarkList.free.Goals as goal

pub invariant_of-self : goal.invariant_of-self
invariant_of-self c =
    let none : c.self.inside.seen.items ≡ c.free.new.seen.items = none_listed (length c.args.self.now) c.self.invariant.0 (c.self.view_is ∙ c.clear.ensures) ∙ sym c.free.ensures.none in
    (subst (λ (xs : List Touched). ArePlaces c.self.inside.places.items xs) none c.self.invariant.0, c.self.invariant.1)

pub returns : goal.returns
returns c =
    let none : c.self.inside.seen.items ≡ c.free.new.seen.items = none_listed (length c.args.self.now) c.self.invariant.0 (c.self.view_is ∙ c.clear.ensures) ∙ sym c.free.ensures.none in
    ap (λ (xs : List Touched). marks_in xs c.self.inside.places.items) (sym none) ∙ c.self.view_is ∙ c.clear.ensures
