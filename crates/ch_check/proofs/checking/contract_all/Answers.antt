use Rattle.std.proofs.Common.{ℕ, ◌<◌, List, Contains, get_or, refl, sym, subst, ◌∙◌}
use Rattle.ch_check.specs.Ranks.Laws.{not_yet, ranked_inside}
use Rattle.ch_check.proofs.checking.contract_all.Goals as goal

pub contract-requires : goal.contract-requires
contract-requires g c =
    let ranks = c.args.hierarchy.now.ranks in
    let order = c.args.order.now in
    let node : ℕ = get_or order c.order.node-index 0 in
    record {
      in_range = subst (λ n. node < n) (c.requires.nodes ∙ sym c.order.invariant.nodes) (ranked_inside c.requires.order c.order.node-index {x = node} 0 c.order-test.true refl);
      waits = λ among. not_yet c.requires.order c.order.node-index {x = node} 0 c.order-test.true refl (subst (λ (xs : List ℕ). Contains xs node) c.order.invariant.order among);
    }
