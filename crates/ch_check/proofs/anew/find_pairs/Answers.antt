use Rattle.std.proofs.Common.{◌≡◌, ◌<◌, List, [], length, get_or, ap, sym, subst, ◌∙◌}
use Rattle.ch_laws.specs.declared.entry.Entry.{Entry}
use Rattle.ch_laws.specs.declared.shortcut.Shortcut.{Shortcut}
use Rattle.ch_check.specs.Pairs.{AreSorted, IsDue, share_of}
use Rattle.ch_check.proofs.Joining.{next_sorted, sorted_none}
use Rattle.ch_check.proofs.anew.find_pairs.Goals as goal

pub outs-init : goal.outs-init
outs-init c =
    let o = c.args.task.now.overlay.now in
    let v = c.args.task.now.node in
    let first = c.args.first.now in
    let into = c.args.into.now in
    subst (λ (ps : List Shortcut). AreSorted o v first into [] ps []) (sym c.clear.ensures.items)
    (sorted_none o v first into)

pub long_pair-found-requires-clause-alive : goal.long_pair-found-requires-clause-alive
long_pair-found-requires-clause-alive c =
    let items : c.out-out-items.result.now ≡ c.args.task.now.row.now.out =
    c.out-out-items.ensures in
    c.requires.task.row.outs c.out-item.result (
      c.outs.out-index,
      subst (λ (es : List Entry). c.outs.out-index < length es) items c.outs-test.true,
      sym (c.out-item.is ∙ ap (λ (es : List Entry). get_or es c.outs.out-index c.out-item.result) items),
    )

pub outs-preserved : goal.outs-preserved
outs-preserved c =
    let o = c.args.task.now.overlay.now in
    let v = c.args.task.now.node in
    let first = c.args.first.now in
    let into = c.args.into.now in
    let outs = c.args.task.now.row.now.out in
    let items : c.out-out-items.result.now ≡ outs =
    c.out-out-items.ensures in
    next_sorted outs c.outs.out-index c.out-item.result (share_of c.long_pair-found.result) _ _
    (subst (λ (es : List Entry). c.outs.out-index < length es) items c.outs-test.true) c.requires.task.row.out_rises
    c.outs.invariant
    (subst (λ (e : Entry). IsDue o v first into e (share_of c.long_pair-found.result))
    (c.out-item.is ∙ ap (λ (es : List Entry). get_or es c.outs.out-index c.out-item.result) items) c.long_pair-found.ensures)
    c.in_ok-add.ensures
