use Rattle.std.proofs.Common.{refl}
use Rattle.hierfile.proofs.links.does_count.Goals as goal

pub returns-in-One : goal.returns-in-One
returns-in-One c = rw (c.in-One.is, c.length-length.ensures, c.arcs-arcs.ensures, c.cost-cost.ensures) refl

pub returns-in-Two : goal.returns-in-Two
returns-in-Two c = rw (c.in-Two.is, c.arcs-arcs.ensures, c.cost-cost.ensures, c.is_some.ensures, c.node.ensures) refl
