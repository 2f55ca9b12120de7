use Rattle.std.proofs.Common.{sym, subst, ◌∙◌}
use Rattle.ch_laws.specs.Rows.{Row}
use Rattle.ch_check.specs.Pairs.{IsOpenRow}
use Rattle.ch_check.proofs.Joining.{row_is_open}
use Rattle.ch_check.proofs.overlay_rows.open_row.Goals as goal

pub returns : goal.returns
returns c =
    subst (λ (r : Row). IsOpenRow c.args.overlay.now c.args.node r) (sym (c.deref.ensures ∙ c.row.ensures))
    (row_is_open c.rows_of_alive_nodes_show_what_remains.ensures c.nodes.ensures.holds c.requires)
