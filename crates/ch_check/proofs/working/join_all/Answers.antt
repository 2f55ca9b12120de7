use Rattle.std.proofs.Common.{◌≡◌, ◌<◌, List, length, get_or, ap, subst, ◌∙◌}
use Rattle.ch_laws.specs.declared.entry.Entry.{Entry}
use Rattle.ch_check.specs.Pairs.{Joins}
use Rattle.ch_check.proofs.Joining.{next_joined}
use Rattle.ch_check.proofs.working.join_all.Goals as goal

pub inns-preserved : goal.inns-preserved
inns-preserved c =
    let o = c.args.task.now.overlay.now in
    let v = c.args.task.now.node in
    let row = c.args.task.now.row.now in
    let old = c.inns.buffers.shortcuts.items in
    let new = c.join_from.new.buffers.shortcuts.items in
    let items : c.inn-into-items.result.now ≡ row.inn =
    c.inn-into-items.ensures in
    record {
      joined = next_joined row.inn c.inns.into-index c.into-item.result new
          (subst (λ (es : List Entry). c.inns.into-index < length es) items c.inns-test.true) c.requires.task.row.inn_rises
          c.inns.invariant.joined
          (subst (λ (e : Entry). Joins o v row e old new)
          (c.into-item.is ∙ ap (λ (es : List Entry). get_or es c.inns.into-index c.into-item.result) items)
          c.in_ok-join_from.ensures.joined);
      kept = c.in_ok-join_from.ensures.kept;
    }
