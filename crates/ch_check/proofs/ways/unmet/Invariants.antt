use Rattle.ch_check.specs.Pairs.{AreUnmet}
use Rattle.ch_check.proofs.ways.unmet.Given as goal

abbrev pub invariant-owed : goal.invariant-owed
invariant-owed l = AreUnmet l.owed l.ways l.place l.left.items
