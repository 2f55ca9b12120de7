use Rattle.ch_cost.specs.Cost.Fields.{of_walk-is}
use Rattle.ch_cost.proofs.cost.Cost.of_walk.Goals as goal

pub returns : goal.returns
returns c = of_walk-is c.args.length c.args.arcs
