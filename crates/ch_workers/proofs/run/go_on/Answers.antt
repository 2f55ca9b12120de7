use Rattle.std.proofs.Common.{◌∙◌, ap}
use Rattle.std.specs.Prelude.{vec_len}
use Rattle.ch_workers.proofs.run.go_on.Goals as goal
use Rattle.ch_workers.proofs.run.go_on.Goals.{else-shifts-test, then-shifts-test+then-have_ended, then-shifts-test+else-have_ended+in_ok-work-2+then-log-before}

pub returns-clause-graph : goal.returns-clause-graph
returns-clause-graph g c = elim c.shifts-test.branch [
  | else-shifts-test w ↦ ap (λ work. work.ledger.graph) w.work-is ∙ c.shifts.invariant.0
  | then-shifts-test+then-have_ended w ↦ ap (λ work. work.ledger.graph) w.work-is ∙ c.shifts.invariant.0
  | then-shifts-test+else-have_ended+in_ok-work-2+then-log-before w ↦
      ap (λ work. work.ledger.graph) w.work-is ∙ (w.in_ok-work-2.ensures.graph ∙ c.shifts.invariant.0)
]

pub returns-clause-count : goal.returns-clause-count
returns-clause-count g c = elim c.shifts-test.branch [
  | else-shifts-test w ↦ ap (λ work. vec_len work.workers) w.work-is ∙ c.shifts.invariant.1
  | then-shifts-test+then-have_ended w ↦ ap (λ work. vec_len work.workers) w.work-is ∙ c.shifts.invariant.1
  | then-shifts-test+else-have_ended+in_ok-work-2+then-log-before w ↦
      ap (λ work. vec_len work.workers) w.work-is ∙ (w.in_ok-work-2.ensures.count ∙ c.shifts.invariant.1)
]

pub returns-clause-queue : goal.returns-clause-queue
returns-clause-queue g c = elim c.shifts-test.branch [
  | else-shifts-test w ↦ ap (λ work. work.queue) w.work-is ∙ c.shifts.invariant.2
  | then-shifts-test+then-have_ended w ↦ ap (λ work. work.queue) w.work-is ∙ c.shifts.invariant.2
  | then-shifts-test+else-have_ended+in_ok-work-2+then-log-before w ↦
      ap (λ work. work.queue) w.work-is ∙ (w.in_ok-work-2.ensures.queue ∙ c.shifts.invariant.2)
]
