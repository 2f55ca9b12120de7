use Rattle.std.proofs.Common.{rules, ap, sym, ◌∙◌}
use Rattle.std.proofs.lemmas.List.Sorted.{answers_always}
use Rattle.ch_laws.specs.declared.entry.Entry.{Entry}
use Rattle.ch_overlay.proofs.EntrySearch.{found_there, none_there}
use Rattle.ch_overlay.proofs.row.entry_for.Goals as goal

-- the closure gives an entry's node
pub returns-in-Ok-clause-found : goal.returns-in-Ok-clause-found
returns-in-Ok-clause-found c =
    let found = c.in-Ok.ensures.position (λ (e : Entry). e.other) (answers_always _ _ _ (λ f a r g called. search rules)) in
    let e = c.index-entries-place in (
      (c.in-Ok.place, c.in-Ok.ensures.bound, sym e.is),
      ap (λ (f : Entry). f.other) e.is ∙ found_there c.args.entries.now c.requires c.args.node c.in-Ok.place found e.result,
    )

pub returns-in-Err-clause-none : goal.returns-in-Err-clause-none
returns-in-Err-clause-none c =
    none_there c.args.entries.now c.requires c.args.node c.in-Err.field-0 (c.in-Err.ensures.position (λ (e : Entry). e.other) (answers_always _ _ _ (λ f a r g called. search rules)))
