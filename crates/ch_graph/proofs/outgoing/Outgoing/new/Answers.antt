use Rattle.std.proofs.Common.{◌≡◌, ℕ, ◌<◌, ◌∙◌, List, length, All, Option, Some, None, get_or, subst, sym, arith}
use Rattle.std.proofs.lemmas.List.{get_or_read, length-set}
use Rattle.std.proofs.lemmas.Grind.{common_steps}
use Rattle.ch_graph.specs.declared.road.Road.{Road}
use Rattle.ch_graph.specs.Limits.{IsRoad}
use Rattle.ch_graph.specs.Outgoing.{road_at, IsLastFrom, IsLinked}
use Rattle.ch_graph.proofs.LastArcs.{lasts-more, befores-more}
use Rattle.ch_graph.proofs.outgoing.Outgoing.new.Goals as goal

pub loop-at-preserved : goal.loop-at-preserved
loop-at-preserved c =
    let arcs : List Road = c.arcs-arcs.result.now in
    let last : List (Option ℕ) = c.loop-at.last.items in
    let before : List (Option ℕ) = c.loop-at.before.items in
    let at = c.loop-at.at in
    let from_in : (road_at arcs at).from < c.args.graph.now.nodes = (subst (λ (rs : List Road). All (IsRoad c.args.graph.now.nodes) rs) (sym c.arcs-arcs.ensures.list) c.arcs-arcs.ensures.graph.roads at (record { from = 0; to = 0; weight = 0 }) c.loop-at-test.true).from_in in
    let place : (road_at arcs at).from < length last = omega (arith, from_in, c.loop-at.invariant.nodes) in
    record {
      nodes = length-set last (road_at arcs at).from (Some at) ∙ c.loop-at.invariant.nodes;
      arcs = length-set before at c.index.result.now ∙ c.loop-at.invariant.arcs;
      lasts = λ v h. lasts-more arcs last at place (λ u k. c.loop-at.invariant.lasts u (omega (arith, k, c.loop-at.invariant.nodes))) v (omega (arith, h, c.loop-at.invariant.nodes));
      befores = befores-more before (omega (arith, c.loop-at-test.true, c.loop-at.invariant.arcs))
          (subst (λ (o : Option ℕ). IsLastFrom arcs (road_at arcs at).from at o)
          (sym (get_or_read last (road_at arcs at).from c.index.result.now place c.index.ensures None))
          (c.loop-at.invariant.lasts (road_at arcs at).from from_in)) c.loop-at.invariant.befores;
    }

pub returns : goal.returns
returns c =
    let arcs : List Road = c.arcs-arcs.result.now in
    let all : c.loop-at.at ≡ length arcs = omega (arith, c.loop-at-test.false, c.loop-at.auto.at-end) in
    subst (λ (rs : List Road). IsLinked (record { nodes = c.args.graph.now.nodes; arcs = rs }) c.loop-at.last.items c.loop-at.before.items) c.arcs-arcs.ensures.list (record {
      nodes = c.loop-at.invariant.nodes;
      arcs = c.loop-at.invariant.arcs;
      lasts = λ v h. subst (λ (n : ℕ). IsLastFrom arcs v n (get_or c.loop-at.last.items v None)) all (c.loop-at.invariant.lasts v h);
      befores = λ j h. c.loop-at.invariant.befores j (omega (arith, h, all));
    })

pub loop-at-init : goal.loop-at-init
loop-at-init c = grind (arith, common_steps)
