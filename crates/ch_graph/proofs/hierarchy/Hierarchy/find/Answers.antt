use Rattle.std.proofs.Common.{arith}
use Rattle.std.proofs.lemmas.Grind.{common_steps}
use Rattle.ch_graph.proofs.hierarchy.Hierarchy.find.Goals as goal

pub returns-clause-none : goal.returns-clause-none
returns-clause-none c = rw (← c.self.view_is, ← c.as_slice.ensures.value) c.find.ensures.none

pub find-requires-clause-sorted : goal.find-requires-clause-sorted
find-requires-clause-sorted c = grind (arith, common_steps)
