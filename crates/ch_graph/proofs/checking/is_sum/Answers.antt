use Rattle.std.proofs.Common.{sym, subst, ◌∙◌}
use Rattle.ch_cost.specs.Cost.{◌⊕◌, IsWithin}
use Rattle.ch_cost.specs.Cost.Laws.{within_refl, equal-from_same, same-from_equal}
use Rattle.ch_graph.proofs.checking.is_sum.Goals as goal

pub returns-in-None : goal.returns-in-None
returns-in-None c = (
  λ test. absurd (cc),
  λ is. absurd (c.in-None.ensures (subst (IsWithin (c.args.first ⊕ c.args.second)) (sym is) (within_refl (c.args.first ⊕ c.args.second)))),
)

pub returns-in-Some : goal.returns-in-Some
returns-in-Some c = (
  λ test. sym (equal-from_same c.in-Some.sum c.args.whole (sym c.eq.ensures ∙ test)) ∙ c.in-Some.ensures.1,
  λ is. c.eq.ensures ∙ same-from_equal c.in-Some.sum c.args.whole (c.in-Some.ensures.1 ∙ sym is),
)
