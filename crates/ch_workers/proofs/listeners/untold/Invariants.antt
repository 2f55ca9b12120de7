use Rattle.std.proofs.Common.{◌≡◌, All}
use Rattle.ch_workers.proofs.listeners.untold.Given as goal

abbrev pub invariant-estimators : goal.invariant-estimators
invariant-estimators g l = All (λ listener. listener.told ≡ 0) l.made.items
