use Rattle.std.proofs.Common.{◌≡◌}
use Rattle.ch_contract.specs.Finish.{links_below}
use Rattle.ch_contract.proofs.parts.links_of.Given as goal

abbrev pub invariant-loop-node : goal.invariant-loop-node
invariant-loop-node l = l.links.items ≡ links_below l.overlay.rows l.node
