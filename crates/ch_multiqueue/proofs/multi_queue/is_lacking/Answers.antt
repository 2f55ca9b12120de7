use Rattle.std.proofs.Common.{below_more, rules}
use Rattle.ch_multiqueue.specs.Closing.{IsAmong}
use Rattle.ch_multiqueue.proofs.multi_queue.is_lacking.Goals as goal

pub numbers-preserved : goal.numbers-preserved
numbers-preserved c =
    below_more (λ number. IsAmong number c.args.passes.now) c.numbers.number c.numbers.invariant (c.has_number.ensures.0 c.if-not-has_number.false)

pub returns-then-not-has_number : goal.returns-then-not-has_number
returns-then-not-has_number c = search rules
