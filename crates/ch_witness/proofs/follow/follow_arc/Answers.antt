use Rattle.std.proofs.Common.{Bool, ◌≡◌, true, false, inl, inr, refl, subst, sym, ap, ◌∙◌}
use Rattle.std.proofs.lemmas.Result.{on_ok_weaker}
use Rattle.ch_cost.specs.declared.cost.Cost.{Cost}
use Rattle.ch_cost.specs.Cost.{◌≼◌, ◌⊕◌}
use Rattle.ch_witness.specs.Frontier.{IsOffered}
use Rattle.ch_witness.specs.Tree.{labels_of}
use Rattle.ch_witness.proofs.follow.follow_arc.Goals as goal

not-true : (b : Bool) → b ≡ false → b ≡ true → ⊥
not-true b f t = cc

pub returns-then-entry-rule : goal.returns-then-entry-rule
returns-then-entry-rule c = inr ((λ apart within. apart c.if-entry-rule.true), refl)

pub returns-then-not-is_at_most : goal.returns-then-not-is_at_most
returns-then-not-is_at_most c = inr ((λ apart within. not-true _ c.if-not-is_at_most.true (c.is_at_most.ensures.1 (subst (λ (k : Cost). k ≼ c.args.rule.cutoff) (sym (c.plus-sum.ensures ∙ ap (λ (k : Cost). c.args.cost ⊕ k) c.cost.ensures)) within))), refl)

pub returns : goal.returns
returns c = on_ok_weaker c.offer.result (λ o. inl (
  c.if-entry-rule.false,
  subst (λ (k : Cost). k ≼ c.args.rule.cutoff) (c.plus-sum.ensures ∙ ap (λ (k : Cost). c.args.cost ⊕ k) c.cost.ensures)
      (c.is_at_most.ensures.0 c.if-not-is_at_most.false),
  subst (λ (k : Cost). IsOffered (labels_of c.args.frontier.now) c.args.entry.other k c.args.before (labels_of c.offer.new.self))
      (c.plus-sum.ensures ∙ ap (λ (k : Cost). c.args.cost ⊕ k) c.cost.ensures) o,
)) c.offer.ensures
