use Rattle.std.proofs.Common.{◌≡◌}
use Rattle.ch_multiqueue.proofs.multi_queue.MultiQueue.take_first_found.Given as goal

-- nothing was taken yet
abbrev pub invariant-heaps : goal.invariant-heaps
invariant-heaps g l = l.pass ≡ l.initial.pass
