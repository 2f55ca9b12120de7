use Rattle.std.proofs.Common.{take}
use Rattle.ch_graph.specs.Walk.{IsLeastOrNone}
use Rattle.ch_graph.specs.Graph.{ArcOf}
use Rattle.ch_graph.proofs.step.least_arc.Given as goal

abbrev pub invariant-loop-arc : goal.invariant-loop-arc
invariant-loop-arc l = IsLeastOrNone (ArcOf (record { nodes = l.graph.nodes; arcs = take l.arc-index l.arc-items }) l.from l.to) l.least
