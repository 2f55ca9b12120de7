use Rattle.std.proofs.Common.{arith, ap, ◌∙◌}
use Rattle.ch_cost.specs.Cost.{arcs_of}
use Rattle.ch_cost.specs.Cost.Numbers.{arcs_of-of_walk}
use Rattle.ch_cost.proofs.narrow_cost.NarrowCost.of_walk.Goals as goal

pub of-requires : goal.of-requires
of-requires c = omega (arith, ap arcs_of c.of_walk.ensures ∙ arcs_of-of_walk _ _, c.from.ensures)
