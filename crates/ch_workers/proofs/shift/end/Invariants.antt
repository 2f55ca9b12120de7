use Rattle.std.proofs.Common.{◌≡◌, length}
use Rattle.std.specs.Prelude.{vec_len}
use Rattle.ch_workers.proofs.shift.end.Given as goal

abbrev pub invariant-workers : goal.invariant-workers
invariant-workers g l = vec_len l.workers ≡ length l.yielded
