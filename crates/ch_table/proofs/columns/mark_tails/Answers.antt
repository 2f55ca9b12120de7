use Rattle.std.proofs.lemmas.List.{get_or_default}
use Rattle.ch_query.specs.declared.fall.Fall.{Fall}
use Rattle.std.proofs.Common.{get_or}
use Rattle.ch_table.proofs.Marked.{marked-more}
use Rattle.ch_table.proofs.columns.mark_tails.Goals as goal

pub falls-preserved : goal.falls-preserved
falls-preserved c =
    let none : Fall = record { tail = 0; length = 0 } in
    let n = c.falls.fall-index in
    let falls = c.args.falls.now in
    marked-more falls n (get_or falls n none) c.args.marks.now.items c.falls.marks.items c.falls-test.true (λ d. get_or_default falls n d none c.falls-test.true) (c.requires n none c.falls-test.true) c.falls.invariant
