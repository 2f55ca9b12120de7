use Rattle.std.proofs.Common.{◌∙◌, sym, subst}
use Rattle.performing.specs.Status.{IsStatusOf}
use Rattle.performing.proofs.StatusOfOutcome.{job_end}
use Rattle.performing.proofs.doing.perform.Goals as goal

pub returns-clause-told : goal.returns-clause-told
returns-clause-told g c = (c.outcome_of_job.result, c.report.ensures.status, c.outcome_of_job.ensures.told)

pub returns-clause-status : goal.returns-clause-status
returns-clause-status g c = subst (IsStatusOf c.args.job.now) (sym c.report.ensures.status) (job_end _ c.outcome_of_job.result _ _ _ _ c.outcome_of_job.ensures.told).0

pub returns-clause-mixed : goal.returns-clause-mixed
returns-clause-mixed g c eight = (job_end _ c.outcome_of_job.result _ _ _ _ c.outcome_of_job.ensures.told).1 (sym c.report.ensures.status ∙ eight)
