use Rattle.std.proofs.Common.{arith}
use Rattle.ch_graph.proofs.HeaviestArc.{heaviest-take_more}
use Rattle.ch_graph.proofs.graph.Graph.new.Goals as goal

pub loop-arc-preserved : goal.loop-arc-preserved
loop-arc-preserved c = omega (arith, c.max-heaviest.ensures, c.loop-arc.invariant, heaviest-take_more c.deref-arc-items.result.now c.loop-arc.arc-index (record { from = 0; to = 0; weight = 0 }) c.loop-arc-test.true)
