use Rattle.ch_graph.specs.LinkHalves.{AreHalvesOf}
use Rattle.ch_graph.proofs.hierarchy.Hierarchy.find_all_halves.Given as goal

abbrev pub invariant-links : goal.invariant-links
invariant-links l = AreHalvesOf l.self.links l.halves
