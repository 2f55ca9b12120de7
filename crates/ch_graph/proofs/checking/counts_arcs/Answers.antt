use Rattle.std.proofs.Common.{arith}
use Rattle.std.proofs.lemmas.Bool.Decides.{nat_tests}
use Rattle.ch_graph.proofs.checking.counts_arcs.Goals as goal

pub returns : goal.returns
returns c = grind (arith, nat_tests)
