use Rattle.ch_cost.specs.Cost.Fields.{length_of-is}
use Rattle.ch_cost.proofs.cost.Cost.length.Goals as goal

pub returns : goal.returns
returns c = length_of-is c.args.self
