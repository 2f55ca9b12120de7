use Rattle.std.proofs.Common.{ℕ, ◌≡◌, ◌+◌, ◌<◌, ◌++◌, ◌∷◌, [], List, None, Some, Option, refl, subst, sym, ap, ◌∙◌, length}
use Rattle.std.proofs.lemmas.Option.{slice_get_read}
use Rattle.std.specs.List.{slice_get}
use Rattle.ch_graph.specs.Walk.{Along}
use Rattle.ch_laws.specs.Verdicts.{SeenArc}
use Rattle.ch_overlay.specs.Source.{row_of}
use Rattle.ch_witness.specs.Tree.{node_of, seen_of}
use Rattle.ch_witness.proofs.TracedWay.{IsTraced, places_to, traced_start, traced_place, traced_earlier, traced_more, traced_whole}
use Rattle.ch_witness.proofs.trace.way_to.Goals as goal

pub steps-init : goal.steps-init
steps-init c =
    subst (λ (xs : List ℕ). IsTraced c.args.rule c.args.steps.now c.args.target c.args.label.cost xs c.place-before.result)
    (sym (c.in_ok-push.ensures.ok ∙ ap (λ (xs : List ℕ). xs ++ c.args.target ∷ []) c.new-backward.ensures.items))
    (subst (IsTraced c.args.rule c.args.steps.now c.args.target c.args.label.cost (c.args.target ∷ [])) (sym c.place-before.ensures) (traced_start c.args.rule c.args.steps.now c.args.target c.args.label.cost c.args.label.before c.requires.reached c.requires.apart))

-- the step that was read is the one at its place
at_place : (c : goal.After-place-before-in-Some) → slice_get c.args.steps.now c.in-Some.place ≡ Some c.index-steps-place.result
at_place c =
    let traced : IsTraced c.args.rule c.args.steps.now c.args.target c.args.label.cost c.steps.backward.items (Some c.in-Some.place) = subst (IsTraced c.args.rule c.args.steps.now c.args.target c.args.label.cost c.steps.backward.items) c.in-Some.is c.steps.invariant in
    slice_get_read c.args.steps.now (length c.args.steps.now) c.in-Some.place c.index-steps-place.result refl (traced_place c.args.steps.now c.args.target c.args.label.cost c.steps.backward.items c.in-Some.place traced) c.index-steps-place.is

pub steps-smaller : goal.steps-smaller
steps-smaller c =
    subst (λ (o : Option ℕ). places_to c.place-before-in-Some.result < places_to o) (sym c.in-Some.is)
    (subst (λ (o : Option ℕ). places_to o < c.in-Some.place + 1) (sym c.place-before-in-Some.ensures)
    (traced_earlier c.args.steps.now c.requires.steps c.in-Some.place c.index-steps-place.result (at_place c)))

pub steps-preserved : goal.steps-preserved
steps-preserved c =
    let traced : IsTraced c.args.rule c.args.steps.now c.args.target c.args.label.cost c.steps.backward.items (Some c.in-Some.place) = subst (IsTraced c.args.rule c.args.steps.now c.args.target c.args.label.cost c.steps.backward.items) c.in-Some.is c.steps.invariant in
    subst (λ (xs : List ℕ). IsTraced c.args.rule c.args.steps.now c.args.target c.args.label.cost xs c.place-before-in-Some.result) (sym c.in_ok-push-2.ensures.ok)
    (subst (λ (x : ℕ). IsTraced c.args.rule c.args.steps.now c.args.target c.args.label.cost (c.steps.backward.items ++ x ∷ []) c.place-before-in-Some.result) (sym c.index-steps-place.result.of_node)
    (subst (IsTraced c.args.rule c.args.steps.now c.args.target c.args.label.cost (c.steps.backward.items ++ node_of c.index-steps-place.result ∷ [])) (sym c.place-before-in-Some.ensures)
    (traced_more c.args.steps.now c.requires.steps c.args.target c.args.label.cost c.steps.backward.items c.in-Some.place c.index-steps-place.result (at_place c) traced)))

-- what is left when there is no step before
done : {r : _} {steps : _} {target : _} {cost : _} {nodes : _} (before : Option ℕ) → ((k : ℕ) → before ≡ Some k → ⊥) → IsTraced r steps target cost nodes before → IsTraced r steps target cost nodes None
done None none h = h
done (Some k) none h = absurd (none k refl)

pub returns-clause-leads : goal.returns-clause-leads
returns-clause-leads c =
    subst (λ (xs : List ℕ). Along (SeenArc (row_of (seen_of c.args.steps.now)) c.args.rule.avoid) xs c.args.rule.from c.args.target c.args.label.cost) (sym c.reversed.ensures)
    (traced_whole c.args.steps.now c.args.target c.args.label.cost c.steps.backward.items (done c.steps.before c.in_default.not-Some c.steps.invariant))
