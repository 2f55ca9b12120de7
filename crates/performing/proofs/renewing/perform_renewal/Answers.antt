use Rattle.performing.proofs.StatusOfOutcome.{renewing_end}
use Rattle.performing.proofs.renewing.perform_renewal.Goals as goal

pub returns-clause-status : goal.returns-clause-status
returns-clause-status g c = (renewing_end c.renew.ensures).0
