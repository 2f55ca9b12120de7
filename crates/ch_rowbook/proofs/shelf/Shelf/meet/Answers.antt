use Rattle.std.specs.Prelude.{ℕ, List, []}
use Rattle.std.proofs.Common.{subst, sym, ◌∙◌, ap}
use Rattle.atomic_table.specs.Table.{Joins, Me}
use Rattle.ch_rowbook.specs.declared.words.KnownWords.{KnownWords}
use Rattle.ch_rowbook.specs.Words.{Keeps, greater, reader_with, width}
use Rattle.ch_rowbook.proofs.Fronts.{greater_length}
use Rattle.ch_rowbook.proofs.Seats.{has_words, reader_moves}
use Rattle.ch_rowbook.proofs.WordSteps.{joins}
use Rattle.ch_rowbook.proofs.shelf.Shelf.meet.Goals as goal

pub join_seat-requires : goal.join_seat-requires
join_seat-requires g c =
    let shelf = c.args.self.now in
    let t = shelf.table.shared in
    let seat = c.args.seat.now in
    let other = c.args.other in (
      c.requires.seat.table ∙ sym shelf.table_is,
      c.requires.other.table ∙ sym shelf.table_is,
      ap (λ (m : Me (Unit {0}) KnownWords). m.1) c.requires.other.knows,
      has_words g.B.Book.book.nodes t.table_id.words (shelf.words.1 ∙ ap width shelf.nodes_is),
      subst (λ (v : KnownWords). Joins (Keeps t.key) seat.id v other.id other.me.0 (reader_with (greater v.versions other.me.0.versions)) (reader_with [])) (sym (ap (λ (m : Me (Unit {0}) KnownWords). m.0) c.requires.seat.knows))
          (subst (λ (v : KnownWords). Joins (Keeps t.key) seat.id (reader_with seat.me.0.versions) other.id v (reader_with (greater seat.me.0.versions v.versions)) (reader_with [])) (sym (ap (λ (m : Me (Unit {0}) KnownWords). m.0) c.requires.other.knows))
          (joins t.key seat.id other.id seat.me.0.versions other.me.0.versions)),
    )

pub returns-clause-seat : goal.returns-clause-seat
returns-clause-seat g c =
    let seat = c.args.seat.now in
    let other = c.args.other in
    let front : List ℕ = greater seat.me.0.versions other.me.0.versions in
    reader_moves g.B.Book.book seat c.join_seat.new.seat front c.requires.seat c.join_seat.ensures.0 c.join_seat.ensures.2
    (greater_length seat.me.0.versions other.me.0.versions (c.requires.seat.wide ∙ sym c.requires.other.wide) ∙ c.requires.other.wide ∙ sym c.requires.seat.wide)
