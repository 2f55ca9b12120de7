use Rattle.std.proofs.Common.{◌≡◌}
use Rattle.ch_overlay.specs.Change.{puts}
use Rattle.ch_overlay.proofs.change.put_rows.Given as goal

abbrev pub invariant-loop-node : goal.invariant-loop-node
invariant-loop-node l = l.all ≡ puts l.initial.all l.yielded
