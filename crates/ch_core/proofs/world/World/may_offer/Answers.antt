use Rattle.std.proofs.Common.{◌≡◌, ◌<◌, [], List, All, length, arith, ap, sym, subst, ◌∙◌}
use Rattle.std.proofs.lemmas.Bool.{false≢true}
use Rattle.std.proofs.lemmas.List.{get_or_read}
use Rattle.ch_cost.specs.Cost.Laws.{equal-from_same, same-from_equal}
use Rattle.ch_graph.specs.Limits.{bound_of}
use Rattle.ch_overlay.specs.declared.source.Seen.{Seen}
use Rattle.ch_overlay.specs.Overlay.{Overlay}
use Rattle.ch_core.specs.World.{World, View, StandsIn, view_of}
use Rattle.ch_core.proofs.world.World.may_offer.Goals as goal

pub returns-then-eq : goal.returns-then-eq
returns-then-eq c =
    let w = c.args.self.now in
    let rows = c.args.proposal.now.rests_on in
    let inside : c.args.worker < length c.self.inside.views.items = omega (arith, c.len.ensures, c.self.inside.views.ok) in
    let views_are = ap (λ (v : World). v.views) c.self.view_is in
    let view_is : c.index-view.result.now ≡ view_of w c.args.worker =
    get_or_read c.self.inside.views.items c.args.worker c.index-view.result.now inside c.index-view.ensures [] ∙ ap (λ (v : World). view_of v c.args.worker) c.self.view_is in
    let bounds = equal-from_same c.bound.result c.bound-2.result (sym c.eq.ensures ∙ c.if-eq.true) in
    let bound_is : c.args.proposal.now.bound ≡ bound_of w.ledger.graph =
    sym c.bound.ensures ∙ bounds ∙ c.bound-2.ensures ∙ ap (λ (o : Overlay). o.bound) c.overlay.ensures ∙ c.self.invariant.ledger.bound ∙ ap (λ (v : World). bound_of v.ledger.graph) c.self.view_is in (
      λ yes. record {
        in_range = subst (λ (v : World). c.args.worker < length v.views) c.self.view_is inside;
        bound = bound_is;
        rows = subst (λ (v : View). All (StandsIn v) rows) view_is (subst (λ (rs : List Seen). All (StandsIn c.index-view.result.now) rs) c.rests_on.ensures.rows (c.all_stand.ensures.0 yes));
      },
      λ may. c.all_stand.ensures.1 (subst (λ (rs : List Seen). All (StandsIn c.index-view.result.now) rs) (sym c.rests_on.ensures.rows) (subst (λ (v : View). All (StandsIn v) rows) (sym view_is) may.rows)),
    )

pub returns-else-eq : goal.returns-else-eq
returns-else-eq c =
    let bound_is : c.bound-2.result ≡ bound_of c.args.self.now.ledger.graph =
    c.bound-2.ensures ∙ ap (λ (o : Overlay). o.bound) c.overlay.ensures ∙ c.self.invariant.ledger.bound ∙ ap (λ (v : World). bound_of v.ledger.graph) c.self.view_is in (
      λ yes. absurd (false≢true (sym c.if-eq.false ∙ yes)),
      λ may. c.eq.ensures ∙ same-from_equal c.bound.result c.bound-2.result (c.bound.ensures ∙ may.bound ∙ sym bound_is),
    )
