use Rattle.std.proofs.Common.{◌++◌, List, ap, sym, subst, ◌∙◌}
use Rattle.ch_laws.specs.declared.shortcut.Shortcut.{Shortcut}
use Rattle.ch_check.specs.Pairs.{HaveWays, AreOwed}
use Rattle.ch_check.proofs.Joining.{are_owed, is_joined}
use Rattle.ch_check.proofs.working.join_from.Goals as goal

pub open_row-first-requires : goal.open_row-first-requires
open_row-first-requires c = c.requires.task.row.inns c.args.into.now c.requires.among

pub find_ways-requires-clause-owed : goal.find_ways-requires-clause-owed
find_ways-requires-clause-owed c =
    let t = c.args.task.now in
    let pairs = c.sort_pairs.new.pairs in
    subst (λ (ps : List Shortcut). AreOwed t.overlay.now t.node c.args.into.now.other ps) (sym c.deref.ensures.value)
    (are_owed c.requires.task.row c.open_row-first.ensures c.requires.among c.in_ok-sort_pairs.ensures)

pub returns-clause-joined : goal.returns-clause-joined
returns-clause-joined c =
    let t = c.args.task.now in
    let pairs = c.sort_pairs.new.pairs in
    record {
      put = pairs.put.items;
      appends = c.in_ok-extend_from_slice.ensures.items ∙ ap (λ (ps : List Shortcut). c.args.buffers.now.shortcuts.items ++ ps)
          c.deref-2.ensures.value;
      joined = is_joined c.requires.task.row c.open_row-first.ensures c.requires.among c.in_ok-sort_pairs.ensures
          (subst (λ (ps : List Shortcut). HaveWays t.overlay.now t.node ps) c.deref.ensures.value
          c.in_ok-find_ways.ensures.ways);
    }
