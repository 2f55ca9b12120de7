use Rattle.std.proofs.Common.{◌≡◌, [], All}
use Rattle.test_workers.proofs.kit.empty_lists.Given as goal

abbrev pub invariant-lists : goal.invariant-lists
invariant-lists g l = All (λ list. All (λ e. (goal.Estimator-dyn g (e.vtable, e.value)).heard e.value ≡ []) list.items) l.lists.items
