use Rattle.ch_table.proofs.Ordered.{ArePlacedTo}
use Rattle.ch_table.proofs.columns.places_of.Given as goal

abbrev pub invariant-places : goal.invariant-places
invariant-places l = ArePlacedTo l.nodes l.ranks l.places.items l.place
