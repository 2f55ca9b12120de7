use Rattle.std.proofs.Common.{arith, ap, ◌∙◌}
use Rattle.ch_cost.specs.Cost.{arcs_of}
use Rattle.ch_cost.specs.Cost.Numbers.{arcs_of-of_walk}
use Rattle.test_kit.proofs.rows.cost_of.Goals as goal

pub of-requires : goal.of-requires
of-requires c = record { few = omega (arith, ap arcs_of c.of_walk.ensures ∙ arcs_of-of_walk _ _) }
