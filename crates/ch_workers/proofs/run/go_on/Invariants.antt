use Rattle.std.proofs.Common.{◌≡◌}
use Rattle.std.specs.Prelude.{vec_len}
use Rattle.ch_workers.proofs.run.go_on.Given as goal

abbrev pub invariant-shifts : goal.invariant-shifts
invariant-shifts g l =
    (l.work.ledger.graph ≡ l.fn.work.ledger.graph) × (vec_len l.work.workers ≡ vec_len l.fn.work.workers) × (l.work.queue ≡ l.fn.work.queue)
