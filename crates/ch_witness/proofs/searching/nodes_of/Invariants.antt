use Rattle.std.proofs.Common.{◌≡◌, map, take}
use Rattle.ch_witness.specs.Tree.{seen_of}
use Rattle.ch_witness.proofs.searching.nodes_of.Given as goal

-- the nodes of the first steps
abbrev pub invariant-steps : goal.invariant-steps
invariant-steps l = l.nodes.items ≡ map (λ s. s.node) (seen_of (take l.at l.steps))
