use Rattle.std.proofs.Common.{◌-◌}
use Rattle.ch_graph.specs.LinkIndex.{IsHeadWithin}
use Rattle.ch_graph.proofs.link_index.near_head.Given as goal

abbrev pub decreases-halves : goal.decreases-halves
decreases-halves l = l.near.end - l.near.begin

abbrev pub invariant-halves : goal.invariant-halves
invariant-halves l = IsHeadWithin l.links l.to l.near.begin l.near.end
