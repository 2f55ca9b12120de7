use Rattle.std.proofs.Common.{◌≡◌, ap, sym, ◌∙◌}
use Rattle.ch_cost.specs.declared.cost.Cost.{Cost}
use Rattle.ch_cost.specs.Cost.{◌⊕◌}
use Rattle.ch_graph.proofs.LinkTests.{have_sum, sum_of_found}
use Rattle.ch_graph.proofs.checking.have_sum.Goals as goal

pub returns-in_default : goal.returns-in_default
returns-in_default c = (λ test. absurd (cc), λ have. absurd (c.in_default.ensures.none have.first have.first_at))

pub returns-in_default-find_link : goal.returns-in_default-find_link
returns-in_default-find_link c = (λ test. absurd (cc), λ have. absurd (c.in_default-find_link.ensures.none have.second have.second_at))

pub returns : goal.returns
returns c =
    let both : c.cost-2.result ⊕ c.cost-3.result ≡ c.index-links-first.result.cost ⊕ c.index-links-second.result.cost = ap (λ (k : Cost). k ⊕ c.cost-3.result) c.cost-2.ensures ∙ ap (λ (k : Cost). c.index-links-first.result.cost ⊕ k) c.cost-3.ensures in (
      λ test. have_sum c.args.links.now c.args.link.now c.args.middle c.in-Some.first.0 c.in-Some-find_link.second.0 _ _ _ _ c.in-Some.ensures.found c.in-Some-find_link.ensures.found c.index-links-first.is c.index-links-second.is (sym c.cost.ensures ∙ c.is_sum.ensures.0 test ∙ both),
      λ have. c.is_sum.ensures.1 (c.cost.ensures ∙ sum_of_found c.args.links.now c.args.link.now c.args.middle c.in-Some.first.0 c.in-Some-find_link.second.0 _ _ _ _ c.in-Some.ensures.found c.in-Some-find_link.ensures.found c.index-links-first.is c.index-links-second.is c.requires have ∙ sym both),
    )
