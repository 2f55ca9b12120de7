use Rattle.std.specs.Prelude.{ℕ, ◌≡◌, []}
use Rattle.std.proofs.Common.{subst, sym, ◌∙◌, ap}
use mathlib.Core.Option as option
use Rattle.atomic_table.specs.Table.{Allows, Joins, Me, step}
use Rattle.ch_rowbook.specs.declared.words.KnownWords.{KnownWords}
use Rattle.ch_rowbook.specs.Words.{IsCompare, Keeps, hearing, reader_with, width}
use Rattle.ch_rowbook.proofs.Seats.{has_words}
use Rattle.ch_rowbook.proofs.WordSteps.{compares, hears}
use Rattle.ch_rowbook.proofs.shelf.Shelf.join_reader.Goals as goal

pub join_seat-requires : goal.join_seat-requires
join_seat-requires g c =
    let shelf = c.args.self.now in
    let t = shelf.table.shared in
    let seat = c.args.seat.now in
    let other = c.args.other in (
      c.requires.seat.table ∙ sym shelf.table_is,
      c.requires.other.table ∙ sym shelf.table_is,
      ap (λ (m : Me (Unit {0}) KnownWords). m.1) c.requires.other.knows,
      has_words g.B.Book.book.nodes t.table_id.words (shelf.words.1 ∙ ap width shelf.nodes_is),
      subst (λ (id : ℕ). Joins (Keeps t.key) id seat.me.0 other.id other.me.0 (hearing seat.me.0.versions other.me.0.versions) (reader_with [])) (sym c.requires.seat.first)
          (subst (λ (v : KnownWords). Joins (Keeps t.key) 0 v other.id other.me.0 (hearing v.versions other.me.0.versions) (reader_with [])) (sym (ap (λ (m : Me (Unit {0}) KnownWords). m.0) c.requires.seat.knows))
          (subst (λ (v : KnownWords). Joins (Keeps t.key) 0 (hearing seat.me.0.versions []) other.id v (hearing seat.me.0.versions v.versions) (reader_with [])) (sym (ap (λ (m : Me (Unit {0}) KnownWords). m.0) c.requires.other.knows))
          (hears t.key other.id seat.me.0.versions other.me.0.versions))),
    )

pub load-requires : goal.load-requires
load-requires g c =
    let shelf = c.args.self.now in
    let t = shelf.table.shared in
    let seat = c.join_seat.new.seat in
    let told = hearing c.args.seat.now.me.0.versions c.args.other.me.0.versions in
    let me_is : seat.me ≡ (told, []) = c.join_seat.ensures.2 ∙ ap (λ (m : Me (Unit {0}) KnownWords). (told, m.1)) c.requires.seat.knows in (
      c.join_seat.ensures.0 ∙ c.requires.seat.table ∙ sym shelf.table_is,
      has_words g.B.Book.book.nodes t.table_id.words (shelf.words.1 ∙ ap width shelf.nodes_is),
      subst (λ (id : ℕ). Allows (Keeps t.key) t.table_id.slots id seat.me 0 (λ n. n) (IsCompare (step t.table_id.slots 0 0 0 option.none) seat.me)) (sym (c.join_seat.ensures.1 ∙ c.requires.seat.first))
          (subst (λ (me : Me (Unit {0}) KnownWords). Allows (Keeps t.key) t.table_id.slots 0 me 0 (λ n. n) (IsCompare (step t.table_id.slots 0 0 0 option.none) me)) (sym me_is)
          (compares t.key t.table_id.slots 0 c.args.seat.now.me.0.versions c.args.other.me.0.versions)),
    )
