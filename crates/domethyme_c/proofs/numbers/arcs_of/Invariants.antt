use Rattle.std.proofs.Common.{◌≡◌, take}
use Rattle.domethyme_c.specs.Sets.{arcs_of}
use Rattle.domethyme_c.proofs.numbers.arcs_of.Given as goal

abbrev pub invariant-links : goal.invariant-links
invariant-links l = l.arcs.items ≡ arcs_of (take l.at l.links)
