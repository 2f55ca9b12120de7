use Rattle.std.proofs.Common.{◌≡◌, map}
use Rattle.ch_workers.proofs.boxed.boxes_of.Given as goal

abbrev pub invariant-estimators : goal.invariant-estimators
invariant-estimators g l = map (λ b. b.inner) l.made.items ≡ l.yielded
