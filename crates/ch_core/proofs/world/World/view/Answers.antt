use Rattle.std.proofs.Common.{◌≡◌, ◌<◌, [], length, ap, sym, subst, ◌∙◌}
use Rattle.std.proofs.lemmas.List.{get_or_read}
use Rattle.ch_cost.specs.declared.cost.Cost.{Cost}
use Rattle.ch_overlay.specs.Overlay.{Overlay}
use Rattle.ch_core.specs.World.{World, View, view_of}
use Rattle.ch_core.specs.Keeping.{IsSight}
use Rattle.ch_core.proofs.Sights.{sight_of}
use Rattle.ch_core.proofs.world.World.view.Goals as goal

pub new-requires : goal.new-requires
new-requires c =
    let w : World = record { ledger = c.self.inside.ledger; book = c.self.inside.book.items; views = c.self.inside.views.items } in
    let inside : c.args.worker < length c.self.inside.views.items = subst (λ (v : World). c.args.worker < length v.views) (sym c.self.view_is) c.requires in
    let view_is = get_or_read c.self.inside.views.items c.args.worker c.index.result.now inside c.index.ensures [] in
    let bound_is : c.bound.result ≡ w.ledger.overlay.bound = c.bound.ensures ∙ ap (λ (o : Overlay). o.bound) c.overlay.ensures in
    subst (λ (v : View). IsSight (record { view = v; bound = c.bound.result })) (sym view_is)
    (subst (λ (b : Cost). IsSight (record { view = view_of w c.args.worker; bound = b })) (sym bound_is) (sight_of w c.self.invariant c.args.worker))
