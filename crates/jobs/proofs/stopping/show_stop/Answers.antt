use Rattle.std.proofs.Common.{rules}
use Rattle.jobs.proofs.stopping.show_stop.Goals as goal

pub returns-in-Refused-clause-status : goal.returns-in-Refused-clause-status
returns-in-Refused-clause-status g c = search rules
