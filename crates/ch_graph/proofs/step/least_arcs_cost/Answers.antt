use Rattle.std.proofs.Common.{ℕ, ◌≡◌, ◌+◌, List, [], ◌∷◌, drop, get_or, subst, sym, ◌∙◌, arith}
use Rattle.std.proofs.lemmas.List.{drop_more, drop_all}
use Rattle.ch_cost.specs.declared.cost.Cost.{Cost}
use Rattle.ch_cost.specs.Cost.Laws.{ZERO-is, equal-from_same, same-from_equal}
use Rattle.ch_graph.proofs.LeastArcChains.{GoesOn, goes_on-from, goes_on-to, goes_on-end, goes_on-stop, goes_on-step, goes_on-onward, goes_on-blocked}
use Rattle.ch_graph.proofs.step.least_arcs_cost.Goals as goal

pub loop-node-init : goal.loop-node-init
loop-node-init c = record {
  whole = λ h. subst (λ (d : Cost). GoesOn c.args.graph.now d (c.args.first ∷ c.args.rest.now) c.args.cost) ZERO-is h;
  left = λ h. subst (λ (d : Cost). GoesOn c.args.graph.now d (c.args.first ∷ c.args.rest.now) c.args.cost) (sym ZERO-is) h;
}

pub returns-in_default : goal.returns-in_default
returns-in_default c =
    let nodes : List ℕ = c.args.rest.now in
    let split : drop c.loop-node.node-index nodes ≡ get_or nodes c.loop-node.node-index 0 ∷ drop (c.loop-node.node-index + 1) nodes = drop_more nodes c.loop-node.node-index 0 c.loop-node-test.true in (
      λ e. absurd (cc (e)),
      λ through. absurd
          (goes_on-blocked c.args.graph.now c.loop-node.at (get_or nodes c.loop-node.node-index 0)
          (drop (c.loop-node.node-index + 1) nodes) c.in_default.ensures.none
          (subst (λ (ns : List ℕ). GoesOn c.args.graph.now c.loop-node.spent (c.loop-node.at ∷ ns) c.args.cost) split
          (c.loop-node.invariant.left (goes_on-from c.args.graph.now (c.args.first ∷ nodes) c.args.cost through)))),
    )

pub loop-node-preserved : goal.loop-node-preserved
loop-node-preserved c =
    let nodes : List ℕ = c.args.rest.now in
    let next : ℕ = get_or nodes c.loop-node.node-index 0 in
    let after : List ℕ = drop (c.loop-node.node-index + 1) nodes in
    let split : drop c.loop-node.node-index nodes ≡ next ∷ after = drop_more nodes c.loop-node.node-index 0 c.loop-node-test.true in
    let arc : Cost = c.in-Some.ensures.sum.0 in
    record {
      whole = λ h. c.loop-node.invariant.whole
          (subst (λ (ns : List ℕ). GoesOn c.args.graph.now c.loop-node.spent (c.loop-node.at ∷ ns) c.args.cost) (sym split)
          (goes_on-step c.args.graph.now c.loop-node.spent arc c.loop-node.at next after c.in-Some.ensures.sum.1
          (subst (λ (d : Cost). GoesOn c.args.graph.now d (next ∷ after) c.args.cost) c.in-Some.ensures.sum.2 h)));
      left = λ h. subst (λ (d : Cost). GoesOn c.args.graph.now d (next ∷ after) c.args.cost) (sym c.in-Some.ensures.sum.2)
          (goes_on-onward c.args.graph.now arc c.loop-node.at next after c.in-Some.ensures.sum.1
          (subst (λ (ns : List ℕ). GoesOn c.args.graph.now c.loop-node.spent (c.loop-node.at ∷ ns) c.args.cost) split
          (c.loop-node.invariant.left h)));
    }

pub returns : goal.returns
returns c =
    let nodes : List ℕ = c.args.rest.now in
    let over : drop c.loop-node.node-index nodes ≡ [] = drop_all c.loop-node.node-index nodes (omega (arith, c.loop-node-test.false)) in (
      λ e. goes_on-to c.args.graph.now
          (c.loop-node.invariant.whole (subst (λ (ns : List ℕ). GoesOn c.args.graph.now c.loop-node.spent (c.loop-node.at ∷ ns) c.args.cost)
          (sym over) (goes_on-stop c.args.graph.now c.loop-node.at
          (equal-from_same c.loop-node.spent c.args.cost (sym c.eq.ensures ∙ e))))),
      λ through. c.eq.ensures ∙ same-from_equal c.loop-node.spent c.args.cost
          (goes_on-end c.args.graph.now c.loop-node.at
          (subst (λ (ns : List ℕ). GoesOn c.args.graph.now c.loop-node.spent (c.loop-node.at ∷ ns) c.args.cost) over
          (c.loop-node.invariant.left (goes_on-from c.args.graph.now (c.args.first ∷ nodes) c.args.cost through)))),
    )
