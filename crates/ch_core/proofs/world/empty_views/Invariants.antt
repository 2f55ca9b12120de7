use Rattle.std.proofs.Common.{◌≡◌, [], replicate}
use Rattle.ch_core.proofs.world.empty_views.Given as goal

abbrev pub invariant-workers : goal.invariant-workers
invariant-workers l = l.views.items ≡ replicate l.counter []
