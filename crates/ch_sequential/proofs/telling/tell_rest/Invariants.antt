use Rattle.std.proofs.Common.{◌≡◌}
use Rattle.ch_sequential.proofs.telling.tell_rest.Given as goal

abbrev pub invariant-ranks : goal.invariant-ranks
invariant-ranks g l = l.listener.told ≡ l.rank
