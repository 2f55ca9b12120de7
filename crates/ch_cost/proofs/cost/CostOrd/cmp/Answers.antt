use Rattle.ch_cost.specs.Cost.Fields.{compare-is}
use Rattle.ch_cost.proofs.cost.CostOrd.cmp.Goals as goal

pub returns : goal.returns
returns c = rw (c.then.ensures, c.cmp.ensures, c.cmp-2.ensures) (compare-is c.args.self.now c.args.other.now)
