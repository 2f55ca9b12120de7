use Rattle.std.proofs.Common.{List, take, subst, sym, ◌∙◌, arith}
use Rattle.std.proofs.lemmas.List.{take_more, take_all}
use Rattle.ch_graph.specs.declared.road.Road.{Road}
use Rattle.ch_graph.specs.Walk.{IsLeastOrNone}
use Rattle.ch_graph.specs.Graph.{ArcOf}
use Rattle.ch_graph.proofs.step.least_arc.Goals as goal

pub loop-arc-preserved : goal.loop-arc-preserved
loop-arc-preserved c = subst (λ (rs : List Road). IsLeastOrNone
    (ArcOf (record { nodes = c.args.graph.now.nodes; arcs = rs }) c.args.from c.args.to) c.with_arc-least.result)
    (sym (take_more c.arcs-arc-items.result.now c.loop-arc.arc-index (record { from = 0; to = 0; weight = 0 }) c.loop-arc-test.true))
    (c.with_arc-least.ensures c.args.graph.now.nodes (take c.loop-arc.arc-index c.arcs-arc-items.result.now) c.loop-arc.invariant)

pub returns : goal.returns
returns c = subst (λ (rs : List Road). IsLeastOrNone
    (ArcOf (record { nodes = c.args.graph.now.nodes; arcs = rs }) c.args.from c.args.to) c.loop-arc.least)
    (take_all c.loop-arc.arc-index c.arcs-arc-items.result.now (omega (arith, c.loop-arc-test.false))
    ∙ c.arcs-arc-items.ensures.list) c.loop-arc.invariant
