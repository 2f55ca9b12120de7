use Rattle.performing.proofs.StatusOfOutcome.{found, unchecked, checking_end}
use Rattle.performing.proofs.checking.perform_check.Goals as goal

tells : goal.returns-in-Ok-clause-told
tells g c = found c.in-Ok.verdict _ _ _ _ c.ending_found.ensures c.in-Ok.ensures.says c.in-Ok.ensures.written

pub returns-in-Ok-clause-told : goal.returns-in-Ok-clause-told
returns-in-Ok-clause-told g c = tells g c

pub returns-in-Ok-clause-status : goal.returns-in-Ok-clause-status
returns-in-Ok-clause-status g c = (checking_end (tells g c)).0

refuses : goal.returns-in-Err-clause-told
refuses g c = unchecked c.in-Err.cause _ _ _ _ c.in-Err.ensures.refused

pub returns-in-Err-clause-told : goal.returns-in-Err-clause-told
returns-in-Err-clause-told g c = refuses g c

pub returns-in-Err-clause-status : goal.returns-in-Err-clause-status
returns-in-Err-clause-status g c = (checking_end (refuses g c)).0
