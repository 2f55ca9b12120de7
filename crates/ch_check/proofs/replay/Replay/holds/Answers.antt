use Rattle.std.proofs.Common.{subst}
use Rattle.ch_check.specs.Replay.{Replay, IsReplay}
use Rattle.ch_check.proofs.replay.Replay.holds.Goals as goal

pub returns : goal.returns
returns c = subst (λ (r : Replay). IsReplay r) c.self.view_is c.self.invariant.0
