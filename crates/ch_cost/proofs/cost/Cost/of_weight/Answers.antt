use Rattle.ch_cost.specs.Cost.Fields.{of_weight-is}
use Rattle.ch_cost.proofs.cost.Cost.of_weight.Goals as goal

pub returns : goal.returns
returns c = rw c.from.ensures (of_weight-is c.args.weight)
