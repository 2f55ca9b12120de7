use Rattle.std.proofs.Common.{◌<◌, length, is_none, arith, ap, sym, ◌∙◌}
use Rattle.ch_laws.specs.Rows.{Row}
use Rattle.ch_contract.proofs.SweptNodes.{waits-from_none}
use Rattle.ch_contract.proofs.parts.ranks_of.Goals as goal

pub unreachable-requires : goal.unreachable-requires
unreachable-requires c =
    let inside : c.loop-node.node < length c.args.overlay.now.rows = omega (arith, c.loop-node.invariant.nodes) in
    let row_is = c.behind-row.view_is ∙ c.deref.ensures ∙ c.row.ensures in
    let none = sym (ap (λ (r : Row). is_none r.rank) row_is) ∙ ap is_none c.in_default.is in
    waits-from_none (c.nodes-nodes.ensures.holds.rows c.loop-node.node inside) none (c.requires c.loop-node.node inside)
