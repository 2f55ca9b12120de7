use Rattle.std.proofs.Common.{arith, sym, subst}
use Rattle.std.proofs.lemmas.Bool.{iff_false}
use Rattle.ch_cost.specs.declared.cost.Cost.{Cost}
use Rattle.ch_cost.specs.Cost.{IsWithin}
use Rattle.ch_cost.specs.Cost.Fields.{fits-from_within}
use Rattle.ch_cost.proofs.cost.Cost.plus_within.Goals as goal

pub returns-in_err-sum : goal.returns-in_err-sum
returns-in_err-sum c = rw c.from_residual.ensures (λ h. c.in_err-sum.ensures (fits-from_within _ c.args.bound (omega (arith, c.well_formed)) (omega (arith, c.well_formed)) h))

pub returns-then-not-is_within : goal.returns-then-not-is_within
returns-then-not-is_within c = λ h.
    iff_false c.is_within.ensures c.if-not-is_within.true (subst (λ (sum : Cost). IsWithin sum c.args.bound) (sym c.in_ok-sum.ensures.1) h)

pub returns : goal.returns
returns c = (subst (λ (sum : Cost). IsWithin sum c.args.bound) c.in_ok-sum.ensures.1 (c.is_within.ensures.0 c.if-not-is_within.false), c.in_ok-sum.ensures.1)
