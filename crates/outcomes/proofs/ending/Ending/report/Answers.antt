use Rattle.std.proofs.Common.{subst}
use Rattle.outcomes.specs.Outcomes.{IsQuiet}
use Rattle.outcomes.proofs.RefusalsAreShown.{loud}
use Rattle.outcomes.proofs.ending.Ending.report.Goals as goal

pub returns-in-Refused-clause-quiet : goal.returns-in-Refused-clause-quiet
returns-in-Refused-clause-quiet g c quiet = absurd (loud c.in-Refused.cause (subst IsQuiet c.status.ensures quiet))
