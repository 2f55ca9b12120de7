use Rattle.std.proofs.Common.{arith}
use Rattle.std.proofs.lemmas.Bool.Decides.{nat_tests}
use Rattle.ch_cost.specs.ShortCost.Fields.{short-fits, short-none}
use Rattle.ch_cost.proofs.short_cost.ShortCost.of.Goals as goal

pub returns-then-length-most : goal.returns-then-length-most
returns-then-length-most c = rw (c.length-length.ensures, c.arcs-arcs.ensures) (short-fits c.args.cost (grind (arith, nat_tests, c.if-length-most.true, c.length-length.ensures, c.arcs-arcs.ensures, c.from-most.ensures)))

pub returns : goal.returns
returns c = rw c.none.ensures (short-none c.args.cost (grind (arith, nat_tests, c.if-length-most.false, c.length-length.ensures, c.arcs-arcs.ensures, c.from-most.ensures)))
