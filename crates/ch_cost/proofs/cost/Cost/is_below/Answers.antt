use Rattle.std.proofs.Common.{arith}
use Rattle.std.proofs.lemmas.Bool.Decides.{nat_tests}
use Rattle.ch_cost.specs.Cost.Fields.{below-from_fields, fields-from_below}
use Rattle.ch_cost.proofs.cost.Cost.is_below.Goals as goal

pub returns : goal.returns
returns c = (
  λ e. below-from_fields c.args.self c.args.other (grind (arith, nat_tests, e)) (λ d. grind (arith, nat_tests, e, d)),
  λ h. let f = fields-from_below c.args.self c.args.other h in grind (arith, nat_tests, f.0, f.1),
)
