use Rattle.ch_cost.specs.Cost.Fields.{same-is}
use Rattle.ch_cost.proofs.cost.CostPartialEq.eq.Goals as goal

pub returns : goal.returns
returns c = same-is c.args.self.now c.args.other.now
