use Rattle.std.proofs.Common.{◌++◌, List, ap, refl, sym, subst, ◌∙◌}
use Rattle.ch_laws.specs.declared.shortcut.Shortcut.{Shortcut}
use Rattle.ch_check.specs.Pairs.{AreLeft, AreOwed}
use Rattle.ch_check.proofs.Joining.{is_joined_anew, put_are_owed}
use Rattle.ch_check.proofs.anew.join_from.Goals as goal

pub open_row-first-requires : goal.open_row-first-requires
open_row-first-requires c = c.requires.task.row.inns c.args.into.now c.requires.among

pub leave-requires-clause-owed : goal.leave-requires-clause-owed
leave-requires-clause-owed c =
    let t = c.args.task.now in
    subst (λ (ps : List Shortcut). AreOwed t.overlay.now t.node c.args.into.now.other ps) (sym c.deref.ensures.value)
    (put_are_owed c.requires.task.row c.open_row-first.ensures c.requires.among c.in_ok-find_pairs.ensures)

pub returns-clause-joined : goal.returns-clause-joined
returns-clause-joined c =
    let t = c.args.task.now in
    record {
      put = c.in_ok-left.left.items;
      appends = c.in_ok-extend_from_slice.ensures.items ∙ ap (λ (ps : List Shortcut). c.args.buffers.now.shortcuts.items ++ ps)
          c.deref-2.ensures.value;
      joined = is_joined_anew c.requires.task.row c.open_row-first.ensures c.requires.among c.in_ok-find_pairs.ensures refl
          (subst (λ (ps : List Shortcut). AreLeft t.overlay.now t.node ps c.in_ok-left.left.items) c.deref.ensures.value
          c.in_ok-left.ensures.left);
    }
