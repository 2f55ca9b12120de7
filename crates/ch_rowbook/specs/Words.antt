-- The words of a book and what its pen and its readers know of them.
use Rattle.std.specs.Prelude.{ℕ, ◌≡◌, ◌≤◌, max, true, false, List, [], ◌∷◌, length, slice_index, slice_set, replicate}
use mathlib.Core.Option.{some}
use lib.ListN.{get_elem?}
use Rattle.atomic_table.specs.Table.{State, Me, Step}
use Rattle.ch_rowbook.specs.declared.words.KnownWords.{KnownWords}

-- the pen knows the words as they are, and received a front
abbrev pub hearing : List ℕ → List ℕ → KnownWords
hearing versions heard = record { is_pen = true; versions = versions; heard = heard }

-- the pen knows the words as they are
abbrev pub pen_with : List ℕ → KnownWords
pen_with versions = hearing versions []

-- a reader knows a front
abbrev pub reader_with : List ℕ → KnownWords
reader_with versions = record { is_pen = false; versions = versions; heard = [] }

-- a book of no node has one word, which is no node's
abbrev pub width : ℕ → ℕ
width nodes = max nodes 1

abbrev pub no_versions : ℕ → List ℕ
no_versions words = replicate words 0

-- nowhere above
abbrev pub IsBelow : List ℕ → List ℕ → Type 0
IsBelow xs ys = (x : ℕ) → slice_index xs x ≤ slice_index ys x

-- the greater of two, at each place
abbrev pub greater : List ℕ → List ℕ → List ℕ
greater [] ys = ys
greater (x ∷ xs) [] = x ∷ xs
greater (x ∷ xs) (y ∷ ys) = max x y ∷ greater xs ys

-- The rule: there are this many words, the first seat alone is the pen's, who knows each word, and no front is above its
-- word, nor one that the pen received. A front that was joined into another is empty.
pub record Keeps (words : ℕ) (s : State (Unit {0}) KnownWords) : Type 0 where
  pub wide : length s.words ≡ words
  pub pens : (id : ℕ) (v : KnownWords) → get_elem? s.views id ≡ some v → v.is_pen ≡ true → (id ≡ 0) × (v.versions ≡ s.words)
  pub below : (id : ℕ) (v : KnownWords) → get_elem? s.views id ≡ some v → IsBelow v.versions s.words
  pub told : (id : ℕ) (v : KnownWords) → get_elem? s.views id ≡ some v → IsBelow v.heard s.words

-- a reader's load: what it finds isn't below its front there, and becomes the front
abbrev pub IsLoad : Step (Unit {0}) → Me (Unit {0}) KnownWords → ℕ → Me (Unit {0}) KnownWords → Type 0
IsLoad s me found after = (slice_index me.0.versions s.word ≤ found) × (after ≡ (reader_with (slice_set me.0.versions s.word found), me.1))

-- the pen's load: the front that it received is nowhere above the words, and it forgets that front
abbrev pub IsCompare : Step (Unit {0}) → Me (Unit {0}) KnownWords → ℕ → Me (Unit {0}) KnownWords → Type 0
IsCompare s me found after = IsBelow me.0.heard me.0.versions × (after ≡ (pen_with me.0.versions, me.1))

-- the pen's store: it knows the word that it stored
abbrev pub IsStore : Step (Unit {0}) → Me (Unit {0}) KnownWords → ℕ → Me (Unit {0}) KnownWords → Type 0
IsStore s me found after = after ≡ (pen_with (slice_set me.0.versions s.word s.first), me.1)
