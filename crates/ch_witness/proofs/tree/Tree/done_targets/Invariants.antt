use Rattle.std.proofs.Common.{length, ◌-◌}
use Rattle.ch_witness.proofs.tree.Tree.done_targets.Given as goal

abbrev pub decreases-targets : goal.decreases-targets
decreases-targets l = length l.targets - l.done
