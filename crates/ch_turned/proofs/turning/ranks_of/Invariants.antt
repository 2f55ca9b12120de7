use Rattle.std.proofs.Common.{◌≡◌, take}
use Rattle.ch_turned.proofs.turning.ranks_of.Given as goal

abbrev pub invariant-nodes : goal.invariant-nodes
invariant-nodes l = l.ranks.items ≡ take l.node l.hierarchy.ranks
