use Rattle.performing.proofs.StatusOfOutcome.{after, preparing_end}
use Rattle.performing.proofs.preparing.perform_preparation.Goals as goal

pub returns-clause-told : goal.returns-clause-told
returns-clause-told g c = after c.outcome_of.ensures c.prepare_by-prepared.ensures

pub returns-clause-status : goal.returns-clause-status
returns-clause-status g c = (preparing_end _ _ _ _ (after c.outcome_of.ensures c.prepare_by-prepared.ensures)).0
