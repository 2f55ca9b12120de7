use Rattle.ch_graph.proofs.LinkParts.{first_from_here}
use Rattle.ch_graph.proofs.link_index.first_from.Goals as goal

pub returns-then-links-place : goal.returns-then-links-place
returns-then-links-place c = first_from_here c.args.links.now c.args.node c.links.place _ c.requires.sorted c.links.invariant.1 c.links-test.true c.if-links-place.true
