use Rattle.std.proofs.Common.{subst, arith}
use Rattle.ch_cost.specs.declared.cost.Cost.{Cost}
use Rattle.ch_cost.specs.Cost.{◌≺◌, zero_cost, IsWithin}
use Rattle.ch_cost.specs.Cost.Laws.{ZERO-is}
use Rattle.test_kit.proofs.rows.is_entry.Goals as goal

pub returns : goal.returns
returns c = λ t. record {
  in_range = omega (arith, c.if-entry.false);
  apart = c.if-entry-node.false;
  above = subst (λ (k : Cost). zero_cost ≺ k) c.cost-cost.ensures (subst (λ (z : Cost). z ≺ c.cost-cost.result) ZERO-is (c.is_below.ensures.0 c.if-not-is_below.false));
  within = subst (λ (k : Cost). IsWithin k c.args.bound) c.cost-cost.ensures (c.is_within.ensures.0 t);
}
