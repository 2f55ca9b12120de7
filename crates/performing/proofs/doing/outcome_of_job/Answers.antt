use Rattle.std.proofs.Common.{rules}
use Rattle.performing.proofs.StatusOfOutcome.{of_joined, of_two}
use Rattle.performing.proofs.doing.outcome_of_job.Goals as goal

pub returns-in-Answer-clause-told : goal.returns-in-Answer-clause-told
returns-in-Answer-clause-told g c = of_joined _ _ _ _ _ _ (search rules) c.perform_joined.ensures.told

pub returns-in-Answer-2-clause-told : goal.returns-in-Answer-2-clause-told
returns-in-Answer-2-clause-told g c = of_two _ _ _ _ _ _ _ c.in-Answer-2.is (search rules) c.perform_answer.ensures.told
