use Rattle.ch_laws.proofs.LawfulRuns.{reaches_on}
use Rattle.ch_laws.proofs.contraction.reached_goes_on.Goals as goal

pub returns : goal.returns
returns c = reaches_on
