use Rattle.std.proofs.Common.{arith}
use Rattle.ch_cost.specs.Cost.Fields.{sum-is, fields-from_summable}
use Rattle.ch_cost.proofs.cost.Cost.plus_wide.Goals as goal

pub overflow_add-result : goal.overflow_add-result
overflow_add-result c = omega (arith, (fields-from_summable c.args.self c.requires.first).0, (fields-from_summable c.args.other c.requires.second).0)

pub overflow_add-result-2 : goal.overflow_add-result-2
overflow_add-result-2 c = omega (arith, (fields-from_summable c.args.self c.requires.first).1, (fields-from_summable c.args.other c.requires.second).1)

pub returns : goal.returns
returns c = sum-is c.args.self c.args.other
