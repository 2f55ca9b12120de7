use Rattle.ch_cost.specs.ShortCost.Fields.{no_short-is}
use Rattle.ch_cost.proofs.short_cost.ShortCost.none.Goals as goal

pub returns : goal.returns
returns c = no_short-is
