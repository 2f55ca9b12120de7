use Rattle.std.proofs.Common.{arith}
use Rattle.std.proofs.lemmas.Bool.Decides.{nat_tests}
use Rattle.hierfile.specs.Fault.{link_fault}
use Rattle.hierfile.proofs.links.test_link.Goals as goal

pub returns-then-not-has_weight : goal.returns-then-not-has_weight
unfolding link_fault
returns-then-not-has_weight c = grind (arith, nat_tests)
