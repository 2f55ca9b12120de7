-- What a step leaves of a seat.
use Rattle.std.specs.Prelude.{ℕ, ◌≡◌, ◌<◌, List, [], length, refl}
use Rattle.std.proofs.Common.{◌∙◌, ap, sym, arith}
use Rattle.atomic_table.specs.Table.{Me}
use Rattle.atomic_table.specs.declared.shared.Seat.{Seat}
use Rattle.ch_overlay.specs.Source.{IsBound}
use Rattle.ch_rowbook.specs.declared.words.KnownWords.{KnownWords}
use Rattle.ch_rowbook.specs.Words.{pen_with, reader_with, width}
use Rattle.ch_rowbook.specs.Books.{BookName, IsPenSeat, IsReaderSeat}

abbrev Seated : Type 0
Seated = Seat (Unit {0}) KnownWords

me_is : (kind : List ℕ → KnownWords) (new : Me (Unit {0}) KnownWords) (old : Me (Unit {0}) KnownWords) (front : List ℕ) → ((xs : List ℕ) → (kind xs).versions ≡ xs) → new ≡ (kind front, old.1) → old.1 ≡ [] → new ≡ (kind new.0.versions, [])
me_is kind new old front law is none =
    let versions : new.0.versions ≡ front = ap (λ (m : Me (Unit {0}) KnownWords). m.0.versions) is ∙ law front in
    is ∙ ap (λ c. (kind front, c)) none ∙ ap (λ (xs : List ℕ). (kind xs, [])) (sym versions)

pub reader_moves : (book : BookName) (old new : Seated) (front : List ℕ) → IsReaderSeat book old → new.table_id ≡ old.table_id → new.me ≡ (reader_with front, old.me.1)
    → length front ≡ length old.me.0.versions → IsReaderSeat book new
reader_moves book old new front k table is count =
    let versions : new.me.0.versions ≡ front = ap (λ (m : Me (Unit {0}) KnownWords). m.0.versions) is in
    record {
      table = table ∙ k.table;
      knows = me_is reader_with new.me old.me front (λ xs. refl) is (ap (λ (m : Me (Unit {0}) KnownWords). m.1) k.knows);
      wide = ap length versions ∙ count ∙ k.wide;
      limit = k.limit;
    }

pub pen_moves : (book : BookName) (old new : Seated) (front : List ℕ) → IsPenSeat book old → new.table_id ≡ old.table_id → new.id ≡ old.id → new.me ≡ (pen_with front, old.me.1)
    → length front ≡ length old.me.0.versions → IsPenSeat book new
pen_moves book old new front k table id is count =
    let versions : new.me.0.versions ≡ front = ap (λ (m : Me (Unit {0}) KnownWords). m.0.versions) is in
    record {
      table = table ∙ k.table;
      first = id ∙ k.first;
      knows = me_is pen_with new.me old.me front (λ xs. refl) is (ap (λ (m : Me (Unit {0}) KnownWords). m.1) k.knows);
      wide = ap length versions ∙ count ∙ k.wide;
      limit = k.limit;
    }

-- a seat that is split off
pub part_moves : (book : BookName) (new : Seated) (front : List ℕ) → new.table_id ≡ book.words → new.me ≡ (reader_with front, []) → length front ≡ width book.nodes
    → IsBound book.bound → IsReaderSeat book new
part_moves book new front table is count limit =
    let versions : new.me.0.versions ≡ front = ap (λ (m : Me (Unit {0}) KnownWords). m.0.versions) is in
    record {
      table = table;
      knows = is ∙ ap (λ (xs : List ℕ). (reader_with xs, [])) (sym versions);
      wide = ap length versions ∙ count;
      limit = limit;
    }

-- each node has a word
pub has_word : (nodes x words : ℕ) → x < nodes → words ≡ width nodes → x < words
has_word nodes x words h is = omega (arith, h, is)

pub has_words : (nodes words : ℕ) → words ≡ width nodes → 0 < words
has_words nodes words is = omega (arith, is)
