use Rattle.std.proofs.Common.{ap, subst, ◌∙◌}
use Rattle.ch_cost.specs.declared.cost.Cost.{Cost}
use Rattle.ch_cost.specs.Cost.{◌≼◌, cost_of_arcs}
use Rattle.test_contract.proofs.shelf.Shelf.allows.Goals as goal

pub returns : goal.returns
returns c = λ t.
    let most = subst (λ (b : Cost). c.args.cost ≼ b) c.of_arcs.ensures (c.is_at_most.ensures.0 t) in
    subst (λ (b : Cost). c.args.cost ≼ b) (ap (λ n. cost_of_arcs n c.self.inside.heaviest) c.from.ensures ∙ c.self.view_is) most
