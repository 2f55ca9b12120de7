-- Pieces between the matches of one byte, and pieces of pieces, are the parts between bytes that pass a test.
use Rattle.std.proofs.Common.{ℕ, ◌≡◌, ◌+◌, ◌-◌, ◌<◌, ◌≤◌, Bool, true, false, ◌&&◌, ◌||◌, eqb, leb, cond, List, [], ◌∷◌, ◌++◌, length, take, drop, get_or, arith, refl, ap, sym, subst, ◌∙◌, zero, suc, inl, inr}
use Rattle.std.proofs.lemmas.Bool.{cases_lt, le-leb, lt-leb}
use Rattle.std.proofs.lemmas.List.{drop_more, drop_all, take_all, append-nil, append_assoc, length-drop, get_or-drop, take_more}
use Rattle.std.specs.List.{onto_first, slice_split, flat_map, filter}
use Rattle.bstr.specs.Find.{matches, matches_from, occurs_at}
use Rattle.bstr.specs.Text.{split_at, part}
use Rattle.text_lines.specs.Fields.{is_field, fields_of}

-- a front before the first part
abbrev onto_front : List ℕ → List (List ℕ) → List (List ℕ)
onto_front front [] = front ∷ []
onto_front front (p ∷ ps) = (front ++ p) ∷ ps

onto_front-onto_first : (front : List ℕ) (x : ℕ) (parts : List (List ℕ)) → onto_front front (onto_first x parts) ≡ onto_front (front ++ x ∷ []) parts
onto_front-onto_first front x [] = refl
onto_front-onto_first front x (p ∷ ps) = ap (λ q. q ∷ ps) (sym (append_assoc front (x ∷ []) p))

onto_front-nil_first : (x : ℕ) (parts : List (List ℕ)) → onto_front [] (onto_first x parts) ≡ onto_first x parts
onto_front-nil_first x [] = refl
onto_front-nil_first x (p ∷ ps) = refl

onto_front-nil : (p : ℕ → Bool) (xs : List ℕ) → onto_front [] (slice_split p xs) ≡ slice_split p xs
onto_front-nil p [] = refl
onto_front-nil p (x ∷ xs) = elim (p x) as (λ b. onto_front [] (cond b ([] ∷ slice_split p xs) (onto_first x (slice_split p xs))) ≡ cond b ([] ∷ slice_split p xs) (onto_first x (slice_split p xs))) [
  | true ↦ refl
  | false ↦ onto_front-nil_first x (slice_split p xs)
]

-- the test of a match of one byte
and_true : (b : Bool) → (b && true) ≡ b
and_true true = refl
and_true false = refl

occurs-inside : (hay : List ℕ) (c i : ℕ) → i < length hay → occurs_at hay (c ∷ []) i ≡ eqb (get_or hay i 0) c
occurs-inside hay c i h =
    let reach : leb (i + 1) (length hay) ≡ true = le-leb (i + 1) (length hay) (omega arith) in
    rw (reach, drop_more hay i 0 h) (and_true (eqb (get_or hay i 0) c))

occurs-outside : (hay : List ℕ) (c i : ℕ) → length hay ≤ i → occurs_at hay (c ∷ []) i ≡ false
occurs-outside hay c i h =
    let reach : leb (i + 1) (length hay) ≡ false = lt-leb (i + 1) (length hay) (omega arith) in
    rw reach refl

part_more : (hay : List ℕ) (last i : ℕ) → last ≤ i → i < length hay → part last (i + 1) hay ≡ part last i hay ++ get_or hay i 0 ∷ []
part_more hay last i h inside =
    let reach : i + 1 - last ≡ (i - last) + 1 = omega arith in
    let place : last + (i - last) ≡ i = omega arith in
    let short : i - last < length (drop last hay) = omega (arith, length-drop last hay) in
    rw reach (take_more (drop last hay) (i - last) 0 short ∙ ap (λ (x : ℕ). take (i - last) (drop last hay) ++ x ∷ []) (get_or-drop last hay (i - last) 0 ∙ ap (λ (k : ℕ). get_or hay k 0) place))

part_all : (hay : List ℕ) (last i : ℕ) → length hay ≤ i → part last i hay ≡ drop last hay
part_all hay last i h = take_all (i - last) (drop last hay) (omega (arith, length-drop last hay))

-- the cut at a byte that is a match or not
split_step : (hay : List ℕ) (last i x : ℕ) (ks : List ℕ) (parts : List (List ℕ)) (b : Bool)
    → split_at hay 1 (i + 1) ks ≡ parts
    → split_at hay 1 last ks ≡ onto_front (part last (i + 1) hay) parts
    → part last (i + 1) hay ≡ part last i hay ++ x ∷ []
    → split_at hay 1 last (cond b (i ∷ ks) ks) ≡ onto_front (part last i hay) (cond b ([] ∷ parts) (onto_first x parts))
unfolding split_at
split_step hay last i x ks parts true cut on more = rw (cut, append-nil (part last i hay)) refl
split_step hay last i x ks parts false cut on more = on ∙ ap (λ (front : List ℕ). onto_front front parts) more ∙ sym (onto_front-onto_first (part last i hay) x parts)

split_from : (hay : List ℕ) (c i last n : ℕ) → n + i ≡ length hay + 1 → last ≤ i → split_at hay 1 last (matches_from hay (c ∷ []) 0 i n) ≡ onto_front (part last i hay) (slice_split (λ b. eqb b c) (drop i hay))
unfolding split_at matches_from
split_from hay c i last zero n_is h =
    rw (part_all hay last i (omega arith), drop_all i hay (omega arith)) (ap (λ (xs : List ℕ). xs ∷ []) (sym (append-nil (drop last hay))))
split_from hay c i last (suc n) n_is h = elim (cases_lt i (length hay)) [
  | inl inside ↦ let cut = split_from hay c (i + 1) (i + 1) n (omega arith) (omega arith) in
      let on = split_from hay c (i + 1) last n (omega arith) (omega arith) in
      let nothing : (i + 1) - (i + 1) ≡ 0 = omega arith in
      let parts = slice_split (λ b. eqb b c) (drop (i + 1) hay) in
      rw (occurs-inside hay c i inside, drop_more hay i 0 inside) (split_step
      hay
      last
      i
      (get_or hay i 0)
      (matches_from hay (c ∷ []) 0 (i + 1) n)
      parts
      (eqb (get_or hay i 0) c)
      (rw nothing at cut ∙ onto_front-nil (λ b. eqb b c) (drop (i + 1) hay))
      on
      (part_more hay last i h inside))
  | inr outside ↦ let on = split_from hay c (i + 1) last n (omega arith) (omega arith) in
      rw (occurs-outside hay c i outside, drop_all i hay outside, part_all hay last i outside) (rw (part_all hay last (i + 1) (omega arith), drop_all (i + 1) hay (omega arith)) at on)
]

pub split_at-byte : (hay : List ℕ) (c : ℕ) → split_at hay 1 0 (matches hay (c ∷ []) 0) ≡ slice_split (λ b. eqb b c) hay
split_at-byte hay c = split_from hay c 0 0 (length hay + 1 - 0) (omega arith) (omega arith) ∙ onto_front-nil (λ b. eqb b c) hay

-- a cut has a first part
first_part : (p : ℕ → Bool) (xs : List ℕ) → (s : List ℕ) × (ss : List (List ℕ)) × (slice_split p xs ≡ s ∷ ss)
first_part p [] = ([], [], refl)
first_part p (x ∷ xs) = elim (p x) as (λ b. (s : List ℕ) × (ss : List (List ℕ)) × (cond b ([] ∷ slice_split p xs) (onto_first x (slice_split p xs)) ≡ s ∷ ss)) [
  | true ↦ ([], slice_split p xs, refl)
  | false ↦ let rest = first_part p xs in (x ∷ rest.0, rest.1, ap (onto_first x) rest.2)
]

onto_first-append : (x : ℕ) (q : ℕ → Bool) (s : List ℕ) (more : List (List ℕ)) → onto_first x (slice_split q s) ++ more ≡ onto_first x (slice_split q s ++ more)
onto_first-append x q s more = let parts = first_part q s in subst (λ (ps : List (List ℕ)). onto_first x ps ++ more ≡ onto_first x (ps ++ more)) (sym parts.2) refl

-- the step of a cut of a cut
cut_again : (q : ℕ → Bool) (x : ℕ) (s : List ℕ) (ss : List (List ℕ)) → flat_map (slice_split q) (onto_first x (s ∷ ss)) ≡ cond (q x) ([] ∷ flat_map (slice_split q) (s ∷ ss)) (onto_first x (flat_map (slice_split q) (s ∷ ss)))
cut_again q x s ss = elim (q x) as (λ b. cond b ([] ∷ slice_split q s) (onto_first x (slice_split q s)) ++ flat_map (slice_split q) ss ≡ cond b ([] ∷ flat_map (slice_split q) (s ∷ ss)) (onto_first x (flat_map (slice_split q) (s ∷ ss)))) [
  | true ↦ refl
  | false ↦ onto_first-append x q s (flat_map (slice_split q) ss)
]

pub slice_split-again : (p q : ℕ → Bool) (xs : List ℕ) → flat_map (slice_split q) (slice_split p xs) ≡ slice_split (λ b. p b || q b) xs
slice_split-again p q [] = refl
slice_split-again p q (x ∷ xs) = elim (p x) as (λ b. flat_map (slice_split q) (cond b ([] ∷ slice_split p xs) (onto_first x (slice_split p xs))) ≡ cond (b || q x) ([] ∷ slice_split (λ b. p b || q b) xs) (onto_first x (slice_split (λ b. p b || q b) xs))) [
  | true ↦ ap (λ parts. [] ∷ parts) (slice_split-again p q xs)
  | false ↦ let parts = first_part p xs in
      subst (λ (ps : List (List ℕ)). flat_map (slice_split q) (onto_first x (slice_split p xs)) ≡ cond (q x) ([] ∷ ps) (onto_first x ps)) (slice_split-again p q xs)
      (subst (λ (ps : List (List ℕ)). flat_map (slice_split q) (onto_first x ps) ≡ cond (q x) ([] ∷ flat_map (slice_split q) ps) (onto_first x (flat_map (slice_split q) ps))) (sym parts.2) (cut_again q x parts.0 parts.1))
]

-- the fields of a line, by its words and their parts
pub fields_cut : (line : List ℕ) (words parts : List (List ℕ)) → words ≡ split_at line 1 0 (matches line (32 ∷ []) 0) → parts ≡ split_at [] 1 0 (matches [] (9 ∷ []) 0) → filter is_field (parts ++ flat_map (slice_split (λ b. eqb b 9)) words) ≡ fields_of line
fields_cut line words parts words_are parts_are =
    rw (words_are ∙ split_at-byte line 32, parts_are ∙ split_at-byte [] 9) (ap (filter is_field) (slice_split-again (λ b. eqb b 32) (λ b. eqb b 9) line))

-- no part is left, and the next word is cut
pub next_word : (parts cut words more : List (List ℕ)) (word : List ℕ) → parts ≡ [] → words ≡ word ∷ more → cut ≡ split_at word 1 0 (matches word (9 ∷ []) 0) → cut ++ flat_map (slice_split (λ b. eqb b 9)) more ≡ parts ++ flat_map (slice_split (λ b. eqb b 9)) words
next_word parts cut words more word none words_are cut_is = rw (none, words_are, cut_is ∙ split_at-byte word 9) refl
