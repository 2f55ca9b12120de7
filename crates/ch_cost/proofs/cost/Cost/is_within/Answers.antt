use Rattle.std.proofs.Common.{arith}
use Rattle.std.proofs.lemmas.Bool.Decides.{nat_tests}
use Rattle.ch_cost.specs.Cost.Fields.{within-from_fields, fields-from_within}
use Rattle.ch_cost.proofs.cost.Cost.is_within.Goals as goal

pub returns : goal.returns
returns c = (
  λ e. within-from_fields c.args.self c.args.bound (grind (arith, nat_tests, e)) (grind (arith, nat_tests, e)),
  λ h. let f = fields-from_within c.args.self c.args.bound h in grind (arith, nat_tests, f.0, f.1),
)
