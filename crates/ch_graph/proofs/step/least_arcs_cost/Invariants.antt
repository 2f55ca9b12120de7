use Rattle.std.proofs.Common.{◌∷◌, drop}
use Rattle.ch_cost.specs.Cost.{zero_cost}
use Rattle.ch_graph.proofs.LeastArcChains.{GoesOn}
use Rattle.ch_graph.proofs.step.least_arcs_cost.Given as goal

-- the whole is right exactly where what is left is right after what was spent
abbrev pub invariant-loop-node : goal.invariant-loop-node
invariant-loop-node l = record {
  whole : GoesOn l.graph l.spent (l.at ∷ drop l.node-index l.rest) l.cost → GoesOn l.graph zero_cost (l.fn.first ∷ l.rest) l.cost;
  left : GoesOn l.graph zero_cost (l.fn.first ∷ l.rest) l.cost → GoesOn l.graph l.spent (l.at ∷ drop l.node-index l.rest) l.cost;
}
