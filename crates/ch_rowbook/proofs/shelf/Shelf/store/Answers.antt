use Rattle.std.specs.Prelude.{ℕ, List}
use Rattle.std.proofs.Common.{subst, sym, ◌∙◌, ap, set}
use Rattle.std.proofs.lemmas.List.{length-set}
use mathlib.Core.Option as option
use Rattle.atomic_table.specs.Table.{Allows, Me, step}
use Rattle.ch_rowbook.specs.declared.words.KnownWords.{KnownWords}
use Rattle.ch_rowbook.specs.Words.{IsStore, Keeps, width}
use Rattle.ch_rowbook.proofs.Seats.{has_word, pen_moves}
use Rattle.ch_rowbook.proofs.WordSteps.{stores}
use Rattle.ch_rowbook.proofs.shelf.Shelf.store.Goals as goal

pub store-requires : goal.store-requires
store-requires g c =
    let shelf = c.args.self.now in
    let t = shelf.table.shared in
    let seat = c.args.seat.now in (
      c.requires.seat.table ∙ sym shelf.table_is,
      has_word g.B.Book.book.nodes c.args.node t.table_id.words c.requires.within (shelf.words.1 ∙ ap width shelf.nodes_is),
      subst (λ (id : ℕ). Allows (Keeps t.key) t.table_id.slots id seat.me c.args.node (λ _. c.args.version) (λ _. IsStore (step t.table_id.slots c.args.node c.args.version 0 option.none) seat.me c.args.version)) (sym c.requires.seat.first)
          (subst (λ (me : Me (Unit {0}) KnownWords). Allows (Keeps t.key) t.table_id.slots 0 me c.args.node (λ _. c.args.version) (λ _. IsStore (step t.table_id.slots c.args.node c.args.version 0 option.none) me c.args.version)) (sym c.requires.seat.knows)
          (stores t.key t.table_id.slots c.args.node c.args.version seat.me.0.versions c.requires.above)),
    )

pub returns-clause-seat : goal.returns-clause-seat
returns-clause-seat g c =
    let seat = c.args.seat.now in
    let words : List ℕ = set seat.me.0.versions c.args.node c.args.version in
    pen_moves g.B.Book.book seat c.store.new.seat words c.requires.seat c.store.ensures.0 c.store.ensures.1 c.store.ensures.2 (length-set seat.me.0.versions c.args.node c.args.version)
