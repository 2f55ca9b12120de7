use Rattle.std.proofs.Common.{sym, ◌∙◌}
use Rattle.ch_cost.specs.Cost.Laws.{equal-from_same, same-from_equal}
use Rattle.ch_check.proofs.Tests.{not_both, not_false}
use Rattle.ch_check.proofs.checking.check_watched.Goals as goal

pub replay_all-requires-clause-bound : goal.replay_all-requires-clause-bound
replay_all-requires-clause-bound g c = sym c.bound.ensures ∙ equal-from_same c.bound.result c.bound-2.result (not_false _ c.ne.ensures c.if-ne.false) ∙ c.bound-2.ensures

pub returns-then-ne-clause-bound : goal.returns-then-ne-clause-bound
returns-then-ne-clause-bound g c = λ is equal.
    not_both c.ne.ensures (same-from_equal c.bound.result c.bound-2.result (c.bound.ensures ∙ equal ∙ sym c.bound-2.ensures)) c.if-ne.true
