use Rattle.ch_query.proofs.ClimbLinks.{IsDescending}
use Rattle.ch_query.proofs.half.Half.way_back.Given as goal

abbrev pub invariant-links : goal.invariant-links
invariant-links l = IsDescending l.self.hierarchy.now l.self.side l.marks l.top l.rank l.links.items

abbrev pub decreases-links : goal.decreases-links
decreases-links l = l.rank
