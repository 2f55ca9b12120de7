use Rattle.std.proofs.Common.{◌≡◌, take}
use Rattle.test_workers.proofs.estimators.tell.Given as goal

abbrev pub invariant-entries : goal.invariant-entries
invariant-entries g l = (goal.Estimator-dyn g (l.estimator.vtable, l.estimator.value)).heard l.estimator.value ≡ take l.i l.log
