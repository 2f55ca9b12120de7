use Rattle.ch_laws.proofs.ReachedIsRight.{always_right}
use Rattle.ch_laws.proofs.right.reached_hierarchy_is_right.Goals as goal

pub returns : goal.returns
returns c = always_right c.links_unfold.ensures
