use Rattle.std.proofs.Common.{arith}
use Rattle.ch_cost.specs.Cost.Fields.{sum-is, sum-from_fields, fields-from_sum}
use Rattle.ch_cost.proofs.cost.Cost.checked_plus.Goals as goal

pub returns-in_err-weight : goal.returns-in_err-weight
returns-in_err-weight c =
    rw c.from_residual.ensures (λ h. c.in_err-weight.ensures (omega (arith, (fields-from_sum c.args.self c.args.other h).0)))

pub returns-in_err-arcs : goal.returns-in_err-arcs
returns-in_err-arcs c =
    rw c.from_residual-in_err-arcs.ensures (λ h. c.in_err-arcs.ensures (omega (arith, (fields-from_sum c.args.self c.args.other h).1)))

pub returns : goal.returns
returns c =
    let weight = c.in_ok-weight.ensures in
    let arcs = c.in_ok-arcs.ensures in
    (sum-from_fields c.args.self c.args.other (omega (arith, weight.0)) (omega (arith, arcs.0)), rw (weight.1, arcs.1) (sum-is c.args.self c.args.other))
