use Rattle.std.proofs.Common.{ℕ, ◌≡◌, Option, None, Some, IfNone, arith}
use Rattle.ch_graph.proofs.checking.check.Goals as goal

when_none : {P : Type 0} (o : Option ℕ) → o ≡ None → IfNone o P → P
when_none None is p = p
when_none (Some k) is p = absurd (cc)

pub returns-clause-made : goal.returns-clause-made
returns-clause-made c = record {
  few_nodes = omega (arith, c.if-ranks.false);
  bound = (c.is_bound.ensures.0 c.if-not-is_bound.false).0;
  bound_arcs = (c.is_bound.ensures.0 c.if-not-is_bound.false).1;
  in_range = (when_none c.in_ok-place.field-0 c.in_default.is c.in_ok-place.ensures.none).0;
  once = (when_none c.in_ok-place.field-0 c.in_default.is c.in_ok-place.ensures.none).1;
  sorted = c.in_default-first_out_of_order.ensures.none;
  links = c.in_default-first_bad_link.ensures.none;
}
