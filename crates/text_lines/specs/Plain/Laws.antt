-- What a plain line is to whoever reads it by its fields: one line, whose fields are the letter and the numbers.
use Rattle.std.proofs.Common.{ℕ, ◌≡◌, ◌-◌, ◌+◌, ◌<◌, true, false, eqb, ltb, List, [], ◌∷◌, ◌++◌, length, take, get_or, Some, None, filter, arith, refl, ap, sym, ◌∙◌, inl, inr, zero, suc}
use Rattle.std.specs.Prelude.{⊤}
use Rattle.std.specs.List.{onto_first, slice_split}
use Rattle.std.specs.Str.{all_ascii_digits}
use Rattle.std.specs.Str.Lines.{strip_carriage_return}
use Rattle.std.specs.Char.{is_ascii_digit}
use Rattle.std.proofs.lemmas.Bool.{and_parts, cases_Bool, cond-true, cond-false, lt-ltb}
use Rattle.std.proofs.lemmas.Bool.Decides.{nat_tests}
use Rattle.std.proofs.lemmas.List.{append_assoc, append-nil}
use Rattle.text_lines.specs.Fields.{fields_of, is_blank, is_field}
use Rattle.text_lines.specs.Lines.{line_feeds}
use Rattle.text_lines.specs.Numbers.{number_of, value_after}
use Rattle.text_lines.specs.Plain.{AreNumbers, plain_line, spaced}

-- Bytes that end no line, and no carriage return among them

abbrev IsFree : List ℕ → Type 0
IsFree [] = ⊤
IsFree (b ∷ bs) = (eqb b 10 ≡ false) × (eqb b 13 ≡ false) × IsFree bs

free_both : (front back : List ℕ) → IsFree front → IsFree back → IsFree (front ++ back)
free_both [] back f g = g
free_both (b ∷ front) back f g = (f.0, f.1, free_both front back f.2 g)

digit_free : (b : ℕ) → is_ascii_digit b ≡ true → (eqb b 10 ≡ false) × (eqb b 13 ≡ false) × (is_blank b ≡ false)
digit_free b digit = grind (arith, nat_tests)

free_digits : (ds : List ℕ) → all_ascii_digits ds ≡ true → IsFree ds
free_digits [] all = tt
free_digits (d ∷ ds) all =
    let parts = and_parts (is_ascii_digit d) (all_ascii_digits ds) all in
    let free = digit_free d parts.0 in
    (free.0, free.1, free_digits ds parts.1)

free_feeds : (line : List ℕ) → IsFree line → line_feeds line ≡ 0
free_feeds [] free = refl
free_feeds (b ∷ line) free = cond-false (eqb b 10) (line_feeds line + 1) (line_feeds line) free.0 ∙ free_feeds line free.2

free_at : (line : List ℕ) (k : ℕ) → IsFree line → k < length line → eqb (get_or line k 0) 13 ≡ false
free_at [] k free h = absurd (omega arith)
free_at (b ∷ line) zero free h = free.1
free_at (b ∷ line) (suc k) free h = free_at line k free.2 (omega arith)

free_strip : (line : List ℕ) → IsFree line → strip_carriage_return line ≡ line
free_strip [] free = refl
free_strip (b ∷ line) free = cond-false (eqb (get_or (b ∷ line) (length (b ∷ line) - 1) 0) 13) (take (length (b ∷ line) - 1) (b ∷ line)) (b ∷ line) (free_at (b ∷ line) (length (b ∷ line) - 1) free (omega arith))

free_spaced : (fields : List (List ℕ)) → AreNumbers fields → IsFree (spaced fields)
free_spaced [] are = tt
free_spaced (field ∷ fields) are = (refl, refl, free_both field (spaced fields) (free_digits field are.1) (free_spaced fields are.2))

-- Fields of digits

split_digits : (ds : List ℕ) (fields : List (List ℕ)) → all_ascii_digits ds ≡ true → slice_split is_blank (spaced fields) ≡ [] ∷ fields → slice_split is_blank (ds ++ spaced fields) ≡ ds ∷ fields
split_digits [] fields all rest = rest
split_digits (d ∷ ds) fields all rest =
    let parts = and_parts (is_ascii_digit d) (all_ascii_digits ds) all in
    cond-false (is_blank d) ([] ∷ slice_split is_blank (ds ++ spaced fields)) (onto_first d (slice_split is_blank (ds ++ spaced fields)))
    (digit_free d parts.0).2 ∙ ap (onto_first d) (split_digits ds fields parts.1 rest)

split_spaced : (fields : List (List ℕ)) → AreNumbers fields → slice_split is_blank (spaced fields) ≡ [] ∷ fields
split_spaced [] are = refl
split_spaced (field ∷ fields) are = ap (λ (parts : List (List ℕ)). [] ∷ parts) (split_digits field fields are.1 (split_spaced fields are.2))

all_fields : (fields : List (List ℕ)) → AreNumbers fields → filter is_field fields ≡ fields
all_fields [] are = refl
all_fields (field ∷ fields) are =
    cond-true (ltb 0 (length field)) (field ∷ filter is_field fields) (filter is_field fields) (lt-ltb 0 (length field) are.0)
    ∙ ap (λ (more : List (List ℕ)). field ∷ more) (all_fields fields are.2)

-- a plain line is one line, and its fields are the letter and the numbers
pub plain_fields : (letter : ℕ) (fields : List (List ℕ)) → is_blank letter ≡ false → eqb letter 10 ≡ false → eqb letter 13 ≡ false → AreNumbers fields
    → (line_feeds (plain_line letter fields) ≡ 0) × (fields_of (strip_carriage_return (plain_line letter fields)) ≡ (letter ∷ []) ∷ fields)
plain_fields letter fields word feed return are =
    let free : IsFree (plain_line letter fields) = (feed, return, free_spaced fields are) in
    let split = cond-false (is_blank letter) ([] ∷ slice_split is_blank (spaced fields)) (onto_first letter (slice_split is_blank (spaced fields))) word
    ∙ ap (onto_first letter) (split_spaced fields are) in (
      free_feeds (plain_line letter fields) free,
      ap fields_of (free_strip (plain_line letter fields) free) ∙ ap (filter is_field) split
          ∙ ap (λ (more : List (List ℕ)). (letter ∷ []) ∷ more) (all_fields fields are),
    )

-- a field that spells a number is one digit or more
pub spelled : (field : List ℕ) (n : ℕ) → number_of field ≡ Some n → (0 < length field) × (all_ascii_digits field ≡ true)
spelled [] n is = absurd (cc)
spelled (d ∷ ds) n is = elim (cases_Bool (all_ascii_digits (d ∷ ds))) [
  | inl good ↦ (omega arith, good)
  | inr other ↦ let none = sym (cond-false (all_ascii_digits (d ∷ ds)) (Some (value_after 0 (d ∷ ds))) None other) ∙ is in absurd (cc)
]

-- a text behind the letter, by its numbers one after the other: the last, and one before it
pub last_number : (text field rest : List ℕ) → text ≡ field ++ 10 ∷ rest → 32 ∷ text ≡ spaced (field ∷ []) ++ 10 ∷ rest
last_number text field rest is = ap (λ (t : List ℕ). 32 ∷ t) (is ∙ ap (λ (t : List ℕ). t ++ 10 ∷ rest) (sym (append-nil field)))

pub one_number : (text field more end : List ℕ) (fields : List (List ℕ)) → text ≡ field ++ 32 ∷ more → 32 ∷ more ≡ spaced fields ++ end → 32 ∷ text ≡ spaced (field ∷ fields) ++ end
one_number text field more end fields is rest = ap (λ (t : List ℕ). 32 ∷ t) (is ∙ ap (λ (t : List ℕ). field ++ t) rest ∙ sym (append_assoc field (spaced fields) end))
