use Rattle.std.proofs.Common.{◌≡◌, [], ◌∷◌, ◌++◌, true, Option, Some, subst, sym, inl, inr}
use Rattle.ch_cost.specs.declared.cost.Cost.{Cost}
use Rattle.ch_cost.specs.Cost.{of_weight, ◌≼◌}
use Rattle.ch_cost.specs.Cost.Laws.{cases_cost, at_most-from_below}
use Rattle.ch_graph.specs.Walk.{IsLeastOrNone}
use Rattle.ch_graph.specs.Graph.{ArcOf}
use Rattle.ch_graph.proofs.LeastArc.{Goes, least-other, least-known, least-this}
use Rattle.ch_graph.proofs.step.with_arc.Goals.{then-arc-from-via-then-arc-from, then-arc-from-via-else-arc-from+then-arc-to}
use Rattle.ch_graph.proofs.step.with_arc.Goals as goal

pub returns-then-arc-from : goal.returns-then-arc-from
returns-then-arc-from c = λ nodes arcs h. least-other nodes arcs c.args.arc c.args.from c.args.to c.args.least (λ (k : Cost) (goes : Goes c.args.arc c.args.from c.args.to k). elim c.then-arc-from.branch [
  | then-arc-from-via-then-arc-from w ↦ w.if-arc-from.true goes.from
  | then-arc-from-via-else-arc-from+then-arc-to w ↦ w.if-arc-to.true goes.to
]) h

pub returns-in-Some : goal.returns-in-Some
returns-in-Some c = λ nodes arcs h. least-known nodes arcs c.args.arc c.args.from c.args.to c.in-Some.known
    (subst (λ (d : Cost). c.in-Some.known ≼ d) c.of_weight-cost.ensures (c.is_at_most.ensures.0 c.if-is_at_most.true))
    (subst (λ (o : Option Cost). IsLeastOrNone (ArcOf (record { nodes = nodes; arcs = arcs }) c.args.from c.args.to) o) c.in-Some.is h)

pub returns-in_default : goal.returns-in_default
returns-in_default c =
    let lighter : of_weight c.args.arc.weight ≼ c.in-Some.known = subst (λ (d : Cost). d ≼ c.in-Some.known) c.of_weight-cost.ensures (elim (cases_cost c.of_weight-cost.result c.in-Some.known) [
      | inl below ↦ at_most-from_below below
      | inr most ↦ let yes : c.is_at_most.result ≡ true = c.is_at_most.ensures.1 most in absurd (cc (yes, c.if-is_at_most.false))
    ]) in
    λ nodes arcs h. subst (λ (d : Cost). IsLeastOrNone (ArcOf (record { nodes = nodes; arcs = arcs ++ c.args.arc ∷ [] }) c.args.from c.args.to)
    (Some d)) (sym c.of_weight-cost.ensures)
    (least-this nodes arcs c.args.arc c.args.from c.args.to c.args.least c.if-arc-from.false c.if-arc-to.false
    (λ k is. let same : c.in-Some.known ≡ k = cc (c.in-Some.is, is) in subst (λ (d : Cost). of_weight c.args.arc.weight ≼ d) same lighter) h)

pub returns-in_default-2 : goal.returns-in_default-2
returns-in_default-2 c = λ nodes arcs h. subst
    (λ (d : Cost). IsLeastOrNone (ArcOf (record { nodes = nodes; arcs = arcs ++ c.args.arc ∷ [] }) c.args.from c.args.to) (Some d))
    (sym c.of_weight-cost.ensures) (least-this nodes arcs c.args.arc c.args.from c.args.to c.args.least c.if-arc-from.false c.if-arc-to.false
    (λ k is. absurd (cc (c.in_default.is, is))) h)
