use Rattle.ch_laws.proofs.LawfulRuns.{plan_is_lawful}
use Rattle.ch_laws.proofs.contraction.plan_is_lawful.Goals as goal

pub returns : goal.returns
returns c = plan_is_lawful
