use Rattle.ch_sums.proofs.Adding.{AreAdded}
use Rattle.ch_sums.proofs.numbers.Numbers.new.Given as goal

abbrev pub invariant-places : goal.invariant-places
invariant-places l = AreAdded l.hierarchy l.given l.order.items l.place l.links.items
