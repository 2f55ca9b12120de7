use Rattle.ch_laws.proofs.ReachedIsRight.{always_well_made}
use Rattle.ch_laws.proofs.right.reached_hierarchy_is_well_made.Goals as goal

pub returns : goal.returns
returns c = always_well_made
