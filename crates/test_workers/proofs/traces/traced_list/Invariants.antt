use Rattle.std.proofs.Common.{◌≡◌, [], All}
use Rattle.test_workers.proofs.traces.traced_list.Given as goal

abbrev pub invariant-places : goal.invariant-places
invariant-places g l = All (λ e. (goal.Estimator-dyn g (e.vtable, e.value)).heard e.value ≡ []) l.list.items
