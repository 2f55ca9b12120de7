use Rattle.std.proofs.Common.{sym, subst}
use Rattle.ch_laws.specs.Rows.{Row, IsChanged}
use Rattle.ch_overlay.proofs.ChangedNeighbours.{changed_is}
use Rattle.ch_overlay.proofs.prepared.changed.Goals as goal

pub returns : goal.returns
returns c put placed =
    subst (λ (q : Row). IsChanged put c.args.gone c.args.node c.args.row.now q) (sym c.in_ok-new.ensures)
    (changed_is c.args.gone c.args.node put c.args.out.now.placed.items c.args.inn.now.placed.items placed c.args.row.now c.at.result.now c.at-2.result.now
    c.requires.out_rises c.requires.inn_rises c.at.ensures.rises c.at-2.ensures.rises c.at.ensures.all c.at-2.ensures.all)
