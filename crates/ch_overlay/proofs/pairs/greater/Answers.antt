use Rattle.std.proofs.Common.{sym, ◌∙◌, inl, inr}
use Rattle.std.proofs.lemmas.Bool.{true≢false}
use Rattle.ch_cost.specs.Cost.Laws.{at_most_refl, at_most-from_below, cases_cost}
use Rattle.ch_overlay.proofs.pairs.greater.Goals as goal

pub returns-then-is_at_most-clause-first : goal.returns-then-is_at_most-clause-first
returns-then-is_at_most-clause-first c = c.is_at_most.ensures.0 c.if-is_at_most.true

pub returns-then-is_at_most-clause-second : goal.returns-then-is_at_most-clause-second
returns-then-is_at_most-clause-second c = at_most_refl c.args.b

pub returns-else-is_at_most-clause-first : goal.returns-else-is_at_most-clause-first
returns-else-is_at_most-clause-first c = at_most_refl c.args.a

pub returns-else-is_at_most-clause-second : goal.returns-else-is_at_most-clause-second
returns-else-is_at_most-clause-second c = elim (cases_cost c.args.b c.args.a) [
  | inl below ↦ at_most-from_below below
  | inr most ↦ absurd (true≢false (sym (c.is_at_most.ensures.1 most) ∙ c.if-is_at_most.false))
]
