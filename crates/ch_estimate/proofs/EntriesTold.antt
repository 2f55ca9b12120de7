-- The notes of a list of entries: one more entry, and a bound by their number.
use Rattle.std.proofs.Common.{◌≡◌, ℕ, suc, ◌+◌, ◌≤◌, Bool, true, false, cond, List, [], ◌∷◌, ◌++◌, length, take, drop, refl, ap, sym, ◌∙◌, arith}
use Rattle.std.proofs.lemmas.List.{take_all, drop_all, append-nil}
use Rattle.ch_laws.specs.Contraction.{Contraction}
use Rattle.ch_estimate.specs.Notes.{Note, no_note, raised, is_among, noted, noted_all, note_of}

-- the last entry is outermost
noted_last : (notes : ℕ → Note) (entries : List Contraction) (e : Contraction) → noted_all notes (entries ++ e ∷ []) ≡ noted (noted_all notes entries) e
noted_last notes [] e = refl
noted_last notes (f ∷ entries) e = noted_last (noted notes f) entries e

pub note_more : (entries : List Contraction) (e : Contraction) (x : ℕ) → note_of (entries ++ e ∷ []) x ≡ noted (note_of entries) e x
note_more entries e x = ap (λ (n : ℕ → Note). n x) (noted_last (λ _. no_note) entries e)

-- no more than n at each
pub record IsLow (n : ℕ) (note : Note) : Type 0 where
  pub depth : note.depth ≤ n
  pub gone : note.gone ≤ n

raised_low : (n depth : ℕ) (note : Note) → depth ≤ n → IsLow n note → IsLow (suc n) (raised depth note)
raised_low n depth note d h = record { depth = omega (arith, d, h); gone = omega (arith, h) }

kept_low : (n : ℕ) (note : Note) → IsLow n note → IsLow (suc n) note
kept_low n note h = record { depth = omega (arith, h); gone = omega (arith, h) }

pick_low : (n depth : ℕ) (b : Bool) (note : Note) → depth ≤ n → IsLow n note → IsLow (suc n) (cond b (raised depth note) note)
pick_low n depth true note d h = raised_low n depth note d h
pick_low n depth false note d h = kept_low n note h

weaker : (m n : ℕ) (note : Note) → m ≤ n → IsLow m note → IsLow n note
weaker m n note h low = record { depth = omega (arith, h, low); gone = omega (arith, h, low) }

noted_low : (notes : ℕ → Note) (n : ℕ) (entries : List Contraction) → ((x : ℕ) → IsLow n (notes x)) → (x : ℕ) → IsLow (n + length entries) (noted_all notes entries x)
noted_low notes n [] low x = weaker n (n + 0) (notes x) (omega arith) (low x)
noted_low notes n (e ∷ entries) low x =
    weaker (suc n + length entries) (n + suc (length entries)) (noted_all (noted notes e) entries x) (omega arith)
    (noted_low (noted notes e) (suc n) entries (λ (y : ℕ). pick_low n (notes e.node).depth (is_among e.neighbours y) (notes y) (low e.node).depth (low y)) x)

-- neither a depth nor a count is above the number of entries
pub note_low : (entries : List Contraction) (x : ℕ) → IsLow (length entries) (note_of entries x)
note_low entries x =
    weaker (0 + length entries) (length entries) (note_of entries x) (omega arith)
    (noted_low (λ _. no_note) 0 entries (λ (y : ℕ). record { depth = omega arith; gone = omega arith }) x)

-- notes that were those of the entries, and then changed by one more
pub taken_in : (entries : List Contraction) (e : Contraction) (old : ℕ → Note) (neighbours : List ℕ) (depth : ℕ)
    → ((x : ℕ) → old x ≡ note_of entries x) → depth ≡ (note_of entries e.node).depth → neighbours ≡ e.neighbours
    → (x : ℕ) (new : Note) → new ≡ cond (is_among neighbours x) (raised depth (old x)) (old x)
    → new ≡ note_of (entries ++ e ∷ []) x
taken_in entries e old neighbours depth were deep same x new is =
    is ∙ ap (λ (ns : List ℕ). cond (is_among ns x) (raised depth (old x)) (old x)) same
    ∙ ap (λ (d : ℕ). cond (is_among e.neighbours x) (raised d (old x)) (old x)) deep
    ∙ ap (λ (n : Note). cond (is_among e.neighbours x) (raised (note_of entries e.node).depth n) n) (were x)
    ∙ sym (note_more entries e x)

-- as many notes, written over a whole list, are the list
pub written : (notes before : List Note) (n : ℕ) → length notes ≡ length before → length before ≡ n → take n (notes ++ drop (length notes) before) ≡ notes
written notes before n as_many whole =
    ap (λ (l : List Note). take n (notes ++ l)) (drop_all (length notes) before (omega (arith, as_many)))
    ∙ ap (take n) (append-nil notes) ∙ take_all n notes (omega (arith, as_many, whole))
