use Rattle.std.proofs.Common.{ℕ, ◌<◌}
use Rattle.ch_multiqueue.specs.Closing.{IsAmong}
use Rattle.ch_multiqueue.proofs.multi_queue.is_lacking.Given as goal

-- the passes so far are there
abbrev pub invariant-numbers : goal.invariant-numbers
invariant-numbers l = (number : ℕ) → number < l.number → IsAmong number l.passes
