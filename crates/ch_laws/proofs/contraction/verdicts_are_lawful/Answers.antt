use Rattle.ch_laws.proofs.ByVerdicts.{verdicts_are_lawful}
use Rattle.ch_laws.proofs.contraction.verdicts_are_lawful.Goals as goal

pub returns : goal.returns
returns c = verdicts_are_lawful
