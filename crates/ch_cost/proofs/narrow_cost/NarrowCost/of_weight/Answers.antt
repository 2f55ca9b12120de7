use Rattle.std.proofs.Common.{arith, ap, ◌∙◌}
use Rattle.ch_cost.specs.Cost.{arcs_of}
use Rattle.ch_cost.specs.Cost.Laws.{arcs_of-of_weight}
use Rattle.ch_cost.proofs.narrow_cost.NarrowCost.of_weight.Goals as goal

pub of-requires : goal.of-requires
of-requires c = omega (arith, ap arcs_of c.of_weight.ensures ∙ arcs_of-of_weight c.args.weight)
