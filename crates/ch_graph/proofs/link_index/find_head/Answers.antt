use Rattle.std.proofs.Common.{arith}
use Rattle.ch_graph.proofs.HeadSearch.{not_here}
use Rattle.ch_graph.proofs.link_index.find_head.Goals as goal

pub links-init : goal.links-init
links-init c = λ k before at. absurd (omega (arith, before, (c.near_head-near.ensures.holds k at).0))

pub links-preserved : goal.links-preserved
links-preserved c = not_here c.args.links.now c.args.to c.links.place _ c.links.invariant c.if-links-place.false

pub returns-clause-none : goal.returns-clause-none
returns-clause-none c = λ k at. c.links.invariant k (omega (arith, (c.near_head-near.ensures.holds k at).1)) at
