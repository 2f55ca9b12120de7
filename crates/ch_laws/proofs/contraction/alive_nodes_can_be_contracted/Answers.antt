use Rattle.ch_laws.proofs.NextStep.{goes_on}
use Rattle.ch_laws.proofs.contraction.alive_nodes_can_be_contracted.Goals as goal

pub returns : goal.returns
returns c = goes_on
