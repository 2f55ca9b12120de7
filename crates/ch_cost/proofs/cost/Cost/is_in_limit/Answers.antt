use Rattle.std.proofs.Common.{arith}
use Rattle.std.proofs.lemmas.Bool.Decides.{nat_tests}
use Rattle.ch_cost.specs.Cost.Fields.{in_limit-from_fields, fields-from_in_limit}
use Rattle.ch_cost.proofs.cost.Cost.is_in_limit.Goals as goal

pub returns : goal.returns
returns c = (
  λ e. in_limit-from_fields c.args.self (grind (arith, nat_tests, e)) (grind (arith, nat_tests, e)),
  λ h. let f = fields-from_in_limit c.args.self h in grind (arith, nat_tests, f.0, f.1),
)
