use Rattle.performing.proofs.StatusOfOutcome.{after, answering_end}
use Rattle.performing.proofs.answering.perform_answer.Goals as goal

pub returns-clause-told : goal.returns-clause-told
returns-clause-told g c = after c.outcome_of.ensures c.answer_alone.ensures

pub returns-clause-status : goal.returns-clause-status
returns-clause-status g c = (answering_end _ _ _ _ _ (after c.outcome_of.ensures c.answer_alone.ensures)).0
