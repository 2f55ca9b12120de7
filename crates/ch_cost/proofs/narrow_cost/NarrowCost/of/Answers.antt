use Rattle.std.proofs.Common.{arith, ◌∙◌}
use Rattle.ch_cost.specs.Cost.Numbers.{of_walk-numbers}
use Rattle.ch_cost.specs.NarrowCost.{same_walk}
use Rattle.ch_cost.proofs.narrow_cost.NarrowCost.of.Goals as goal

-- src/narrow_cost.rt:38:5
pub invariant_of-result : goal.invariant_of-result
invariant_of-result c = (omega (arith), omega (arith, c.length-length.type_inv), omega (arith, c.arcs.ensures, c.requires.few))

-- src/narrow_cost.rt:38:5
pub returns : goal.returns
returns c = same_walk (omega (arith, c.length-length.ensures)) c.arcs.ensures ∙ of_walk-numbers c.args.cost
