-- What a log of contractions tells of each node: its depth, and how many of its neighbours are gone.
use Rattle.std.specs.Prelude.{ℕ, ◌+◌, max, Bool, cond, nat_eq, get_or, List, [], ◌∷◌}
use Rattle.std.specs.List.{list_any}
use Rattle.ch_laws.specs.Contraction.{Contraction}
pub use Rattle.ch_estimate.specs.declared.note.Note.{Note}

-- of a node that was never named
abbrev pub no_note : Note
no_note = record { depth = 0; gone = 0 }

-- of a node that loses a neighbour of this depth: it lies deeper than that one, and one more is gone
abbrev pub raised : ℕ → Note → Note
raised depth note = record { depth = max note.depth (depth + 1); gone = note.gone + 1 }

-- whether x is in the list
abbrev pub is_among : List ℕ → ℕ → Bool
is_among xs x = list_any (nat_eq x) xs

-- the notes after one more entry: each neighbour of its node loses it, at the depth that it has, and no other note changes
abbrev pub noted : (ℕ → Note) → Contraction → ℕ → Note
noted notes e x = cond (is_among e.neighbours x) (raised (notes e.node).depth (notes x)) (notes x)

-- the notes after these entries, first to last
abbrev pub noted_all : (ℕ → Note) → List Contraction → ℕ → Note
noted_all notes [] = notes
noted_all notes (e ∷ entries) = noted_all (noted notes e) entries

-- what the entries say of a node
abbrev pub note_of : List Contraction → ℕ → Note
note_of entries = noted_all (λ _. no_note) entries

-- the note of a node by a list of notes, which ends before nodes that were never named
abbrev pub note_in : List Note → ℕ → Note
note_in notes x = get_or notes x no_note
