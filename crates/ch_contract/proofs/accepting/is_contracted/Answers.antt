use Rattle.std.proofs.Common.{◌<◌, ◌↔◌, IsTrue, Contains, length, arith, subst, ◌∙◌}
use Rattle.ch_overlay.specs.Overlay.{Overlay}
use Rattle.ch_contract.proofs.CurrentRows.{contracted_by_rank}
use Rattle.ch_contract.proofs.accepting.is_contracted.Goals as goal

pub returns : goal.returns
returns c =
    let o = c.overlay-overlay.result.now in
    let inside : c.args.node < length o.rows = omega (arith, c.nodes.ensures.count) in
    subst (λ (q : Overlay). IsTrue c.is_some.result ↔ Contains q.order c.args.node) c.overlay-overlay.ensures
    (contracted_by_rank o c.nodes.ensures.holds c.args.node inside _ (c.behind-row.view_is ∙ c.deref.ensures ∙ c.row.ensures) c.is_some.result c.is_some.ensures)
