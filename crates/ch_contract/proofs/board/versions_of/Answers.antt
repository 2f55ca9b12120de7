use Rattle.std.proofs.Common.{arith}
use Rattle.std.proofs.lemmas.Grind.{common_steps}
use Rattle.ch_contract.proofs.board.versions_of.Goals as goal

pub bounds-laid-at : goal.bounds-laid-at
bounds-laid-at c = grind (arith, common_steps) steps 200000

pub laid-preserved : goal.laid-preserved
laid-preserved c = grind (arith, common_steps) steps 600000

pub laid-smaller : goal.laid-smaller
laid-smaller c = grind (arith, common_steps) steps 200000

pub returns : goal.returns
returns c = grind (arith, common_steps) steps 200000
