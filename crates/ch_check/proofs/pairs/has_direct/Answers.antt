use Rattle.std.proofs.Common.{◌≡◌, sym, subst, ◌∙◌, refl, inl, inr}
use Rattle.std.proofs.lemmas.Bool.{true≢false}
use Rattle.ch_cost.specs.declared.cost.Cost.{Cost}
use Rattle.ch_cost.specs.Cost.{◌≼◌, ◌≺◌}
use Rattle.ch_cost.specs.Cost.Laws.{cases_cost}
use Rattle.ch_laws.specs.Rows.{Lists}
use Rattle.ch_overlay.specs.Entries.{one_cost}
use Rattle.ch_check.proofs.pairs.has_direct.Goals as goal

pub returns-in_default-clause-no : goal.returns-in_default-clause-no
returns-in_default-clause-no c = λ no d listed. absurd (c.in_default.ensures.none listed.entry listed.among listed.other)

here : (c : goal.After-is_at_most) → Lists c.args.outs.now c.args.pair.now.to c.in-Some.entry.now.cost
here c = record {
  entry = c.in-Some.entry.now;
  among = c.in-Some.ensures.found.0;
  other = c.in-Some.ensures.found.1;
  costs = refl;
}

pub returns-clause-yes : goal.returns-clause-yes
returns-clause-yes c = λ yes. record {
  cost = c.in-Some.entry.now.cost;
  listed = here c;
  at_most = subst (λ (k : Cost). k ≼ c.args.pair.now.cost) c.cost.ensures (subst (λ (k : Cost). c.cost.result ≼ k) c.cost-2.ensures (c.is_at_most.ensures.0 yes));
}

pub returns-clause-no : goal.returns-clause-no
returns-clause-no c = λ no d listed.
    let same : c.in-Some.entry.now.cost ≡ d = one_cost c.args.outs.now c.requires.rises c.args.pair.now.to _ d (here c) listed in
    subst (λ (k : Cost). c.args.pair.now.cost ≺ k) (c.cost.ensures ∙ same)
    (subst (λ (k : Cost). k ≺ c.cost.result) c.cost-2.ensures
    (elim (cases_cost c.cost-2.result c.cost.result) [
      | inl below ↦ below
      | inr most ↦ absurd (true≢false (sym (c.is_at_most.ensures.1 most) ∙ no))
    ]))
