use Rattle.ch_cost.specs.ShortCost.Fields.{kept-none, kept-some}
use Rattle.ch_cost.proofs.short_cost.ShortCost.cost.Goals as goal

pub returns-then-self-eq4294967295 : goal.returns-then-self-eq4294967295
returns-then-self-eq4294967295 c = kept-none c.args.self c.if-self-eq4294967295.true

pub returns : goal.returns
returns c = rw (c.of_walk.ensures, c.from.ensures, c.from-2.ensures) (kept-some c.args.self c.if-self-eq4294967295.false)
