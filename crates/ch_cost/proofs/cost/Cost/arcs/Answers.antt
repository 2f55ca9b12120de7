use Rattle.ch_cost.specs.Cost.Fields.{arcs_of-is}
use Rattle.ch_cost.proofs.cost.Cost.arcs.Goals as goal

pub returns : goal.returns
returns c = arcs_of-is c.args.self
