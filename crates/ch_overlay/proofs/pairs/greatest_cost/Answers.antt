use Rattle.std.proofs.Common.{List, take, Contains, subst, sym, ◌∙◌, inl, inr}
use Rattle.std.proofs.lemmas.List.{get_or_default, take_all, take_more}
use Rattle.std.proofs.lemmas.List.Elements.{Contains-get_or, Contains-push_cases}
use Rattle.ch_cost.specs.declared.cost.Cost.{Cost}
use Rattle.ch_cost.specs.Cost.{◌≼◌, IsWithin}
use Rattle.ch_cost.specs.Cost.Laws.{ZERO-is, at_most_trans, zero_cost_within}
use Rattle.ch_laws.specs.declared.shortcut.Shortcut.{Shortcut}
use Rattle.ch_laws.specs.Members.{contains_none}
use Rattle.ch_overlay.proofs.pairs.greatest_cost.Goals as goal

pub pairs-init : goal.pairs-init
pairs-init c = record {
  most = λ p among. absurd (contains_none p among);
  within = λ bound all. subst (λ (d : Cost). IsWithin d bound) (sym ZERO-is) (zero_cost_within bound);
}

pub pairs-preserved : goal.pairs-preserved
pairs-preserved c =
    let pairs = c.args.pairs.now in
    let k = c.pairs.pair-index in
    record {
      most = λ p among. elim (Contains-push_cases (take k pairs) _ p (subst (λ (ps : List Shortcut). Contains ps p) (take_more pairs k p c.pairs-test.true) among)) [
        | inl old ↦ at_most_trans (c.pairs.invariant.most p old) c.greater-most.ensures.first
        | inr here ↦ subst (λ (q : Shortcut). q.cost ≼ c.greater-most.result) (c.pair-item.is ∙ (get_or_default pairs k _ p c.pairs-test.true ∙ here)) (subst (λ (k : Cost). k ≼ c.greater-most.result) c.cost.ensures c.greater-most.ensures.second)
      ];
      within = λ bound all. c.greater-most.ensures.within bound (c.pairs.invariant.within bound all) (subst (λ (k : Cost). IsWithin k bound) (sym c.cost.ensures) (subst (λ (q : Shortcut). IsWithin q.cost bound) (sym c.pair-item.is) (all _ (Contains-get_or pairs k _ c.pairs-test.true))));
    }

pub returns-clause-most : goal.returns-clause-most
returns-clause-most c = λ p among. c.pairs.invariant.most p (subst (λ (ps : List Shortcut). Contains ps p) (sym (take_all c.pairs.pair-index c.args.pairs.now c.pairs-test.false)) among)

pub returns-clause-within : goal.returns-clause-within
returns-clause-within c = λ bound all. c.pairs.invariant.within bound all
