use Rattle.std.proofs.Common.{List, All, arith, subst}
use Rattle.ch_graph.specs.declared.road.Road.{Road}
use Rattle.ch_graph.specs.Limits.{IsRoad}
use Rattle.ch_graph.proofs.graph.Graph.checked.Goals as goal

pub new-requires : goal.new-requires
new-requires c = record {
  few_nodes = omega (arith, c.if-nodes.false);
  few_arcs = omega (arith, c.if-len.false, c.len.ensures);
  roads = subst (λ (arcs : List Road). All (IsRoad c.args.nodes) arcs) c.as_slice.ensures.value c.in_default.ensures.none;
}
