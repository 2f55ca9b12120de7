use Rattle.ch_table.proofs.Ends.{AreEndsTo}
use Rattle.ch_table.proofs.columns.ends_of.Given as goal

abbrev pub invariant-targets : goal.invariant-targets
invariant-targets l = AreEndsTo l.hierarchy l.targets l.ranks l.ends.items l.target-index
