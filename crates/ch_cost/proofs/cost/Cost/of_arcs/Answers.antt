use Rattle.ch_cost.specs.Cost.Fields.{cost_of_arcs-is}
use Rattle.ch_cost.proofs.cost.Cost.of_arcs.Goals as goal

pub returns : goal.returns
returns c = rw (c.from-arcs.ensures, c.from.ensures) (cost_of_arcs-is c.args.count c.args.heaviest)
