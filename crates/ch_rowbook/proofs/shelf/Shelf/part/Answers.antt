use Rattle.std.specs.Prelude.{refl}
use Rattle.std.proofs.Common.{sym, ◌∙◌, ap}
use Rattle.atomic_table.specs.Table.{Me}
use Rattle.ch_rowbook.specs.declared.words.KnownWords.{KnownWords}
use Rattle.ch_rowbook.specs.Words.{width}
use Rattle.ch_rowbook.proofs.Seats.{has_words, part_moves, reader_moves}
use Rattle.ch_rowbook.proofs.WordSteps.{splits}
use Rattle.ch_rowbook.proofs.shelf.Shelf.part.Goals as goal

pub split_seat-requires : goal.split_seat-requires
split_seat-requires g c =
    let shelf = c.args.self.now in
    let t = shelf.table.shared in
    let seat = c.args.seat.now in (
      c.requires.seat.table ∙ sym shelf.table_is,
      has_words g.B.Book.book.nodes t.table_id.words (shelf.words.1 ∙ ap width shelf.nodes_is),
      splits t.key seat.id seat.me.0,
    )

pub returns-clause-seat : goal.returns-clause-seat
returns-clause-seat g c =
    let seat = c.args.seat.now in
    let knows = c.requires.seat.knows in
    reader_moves g.B.Book.book seat c.split_seat.new.seat seat.me.0.versions c.requires.seat c.split_seat.ensures.0 (c.split_seat.ensures.2 ∙ ap (λ (v : KnownWords). (v, seat.me.1)) (ap (λ (m : Me (Unit {0}) KnownWords). m.0) knows)) refl

pub returns-clause-part : goal.returns-clause-part
returns-clause-part g c =
    let seat = c.args.seat.now in
    part_moves g.B.Book.book c.split_seat.result seat.me.0.versions (c.split_seat.ensures.3 ∙ c.requires.seat.table) c.split_seat.ensures.4 c.requires.seat.wide c.requires.seat.limit
