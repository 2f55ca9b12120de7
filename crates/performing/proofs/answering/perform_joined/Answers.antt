use Rattle.performing.proofs.StatusOfOutcome.{after, joined_told, answering_end}
use Rattle.performing.proofs.answering.perform_joined.Goals as goal

tells : goal.returns-clause-told
tells g c =
    after c.outcome_of.ensures (joined_told _ _ _ c.answer_joined.result c.answer_joined.ensures.fewest
    (c.causes_tell_refusals.ensures.joined _ _ _ _ c.answer_joined.result c.answer_joined.ensures.refused))

pub returns-clause-told : goal.returns-clause-told
returns-clause-told g c = tells g c

pub returns-clause-status : goal.returns-clause-status
returns-clause-status g c = (answering_end _ _ _ _ _ (tells g c)).0
