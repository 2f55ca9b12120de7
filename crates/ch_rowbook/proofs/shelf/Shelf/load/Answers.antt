use Rattle.std.specs.Prelude.{ℕ, List}
use Rattle.std.proofs.Common.{subst, sym, ◌∙◌, ap, set}
use Rattle.std.proofs.lemmas.List.{length-set}
use mathlib.Core.Option as option
use Rattle.atomic_table.specs.Table.{Allows, Me, step}
use Rattle.ch_rowbook.specs.declared.words.KnownWords.{KnownWords}
use Rattle.ch_rowbook.specs.Words.{IsLoad, Keeps, width}
use Rattle.ch_rowbook.proofs.Seats.{has_word, reader_moves}
use Rattle.ch_rowbook.proofs.WordSteps.{loads}
use Rattle.ch_rowbook.proofs.shelf.Shelf.load.Goals as goal

pub load-requires : goal.load-requires
load-requires g c =
    let shelf = c.args.self.now in
    let t = shelf.table.shared in
    let seat = c.args.seat.now in (
      c.requires.seat.table ∙ sym shelf.table_is,
      has_word g.B.Book.book.nodes c.args.node t.table_id.words c.requires.within (shelf.words.1 ∙ ap width shelf.nodes_is),
      subst (λ (me : Me (Unit {0}) KnownWords). Allows (Keeps t.key) t.table_id.slots seat.id me c.args.node (λ n. n) (IsLoad (step t.table_id.slots c.args.node 0 0 option.none) me)) (sym c.requires.seat.knows)
          (loads t.key t.table_id.slots seat.id c.args.node seat.me.0.versions),
    )

pub returns-clause-seat : goal.returns-clause-seat
returns-clause-seat g c =
    let seat = c.args.seat.now in
    let front : List ℕ = set seat.me.0.versions c.args.node c.load.result in
    reader_moves g.B.Book.book seat c.load.new.seat front c.requires.seat c.load.ensures.0 c.load.ensures.2.1 (length-set seat.me.0.versions c.args.node c.load.result)
