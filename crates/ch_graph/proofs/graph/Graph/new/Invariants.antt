use Rattle.std.proofs.Common.{◌≡◌, take}
use Rattle.ch_graph.specs.Limits.{heaviest}
use Rattle.ch_graph.proofs.graph.Graph.new.Given as goal

abbrev pub invariant-loop-arc : goal.invariant-loop-arc
invariant-loop-arc l = l.heaviest ≡ heaviest (take l.arc-index l.arc-items)
