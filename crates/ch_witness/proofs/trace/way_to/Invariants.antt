use Rattle.ch_witness.proofs.TracedWay.{IsTraced, places_to}
use Rattle.ch_witness.proofs.trace.way_to.Given as goal

abbrev pub invariant-steps : goal.invariant-steps
invariant-steps l = IsTraced l.fn.rule l.steps l.target l.fn.label.cost l.backward.items l.before

abbrev pub decreases-steps : goal.decreases-steps
decreases-steps l = places_to l.before
