use Rattle.std.proofs.Common.{sym, ◌∙◌, ap, set}
use Rattle.ch_overlay.proofs.SeveralWrites.{puts-push}
use Rattle.ch_overlay.proofs.change.put_rows.Goals as goal

pub loop-node-preserved : goal.loop-node-preserved
loop-node-preserved c =
    ap (λ xs. set xs c.in-Some.node c.in-Some.row) c.loop-node.invariant
    ∙ sym (puts-push c.loop-node.yielded c.args.all.now (c.in-Some.node, c.in-Some.row))
