use Rattle.performing.proofs.StatusOfOutcome.{after, told_after, informing_end}
use Rattle.performing.proofs.informing.perform_info.Goals as goal

tells : goal.returns-clause-told
tells g c = after c.after.ensures (told_after c.write_info.result _ _ c.write_info.ensures.informs c.write_info.ensures.refused)

pub returns-clause-told : goal.returns-clause-told
returns-clause-told g c = tells g c

pub returns-clause-status : goal.returns-clause-status
returns-clause-status g c = (informing_end _ _ _ _ (tells g c)).0
