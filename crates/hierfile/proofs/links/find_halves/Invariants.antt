use Rattle.std.proofs.Common.{◌≡◌, drop}
use Rattle.ch_graph.specs.LinkHalves.{AreHalvesOf}
use Rattle.hierfile.specs.Fault.{first_along, half_fault}
use Rattle.hierfile.proofs.links.find_halves.Given as goal

abbrev pub invariant-links : goal.invariant-links
invariant-links l = record {
  halves : AreHalvesOf l.links l.halves;
  faultless : first_along (half_fault l.links) (drop l.place l.links) ≡ first_along (half_fault l.links) l.links;
}
