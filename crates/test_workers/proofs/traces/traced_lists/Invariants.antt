use Rattle.std.proofs.Common.{◌≡◌, [], All}
use Rattle.test_workers.proofs.traces.traced_lists.Given as goal

abbrev pub invariant-workers : goal.invariant-workers
invariant-workers g l = All (λ list. All (λ e. (goal.Estimator-dyn g (e.vtable, e.value)).heard e.value ≡ []) list.items) l.lists.items
