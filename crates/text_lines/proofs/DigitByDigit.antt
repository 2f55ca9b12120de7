-- Numbers by their digits, as loops read them: with a cap, and at the front of a text.
use Rattle.std.proofs.Common.{ℕ, ◌≡◌, ◌+◌, ◌-◌, ◌*◌, ◌<◌, ◌≤◌, true, false, cond, if◌then◌else◌, List, [], ◌∷◌, ◌++◌, length, take, drop, get_or, Option, Some, None, arith, refl, ap, sym, ◌∙◌}
use Rattle.std.proofs.lemmas.Bool.{and_parts, cond-true}
use Rattle.std.proofs.lemmas.List.{drop_more, drop_all, length-take, take-append-drop, take_more}
use Rattle.std.specs.Option.{option_map}
use Rattle.std.specs.Str.{all_ascii_digits}
use Rattle.std.specs.Char.{is_ascii_digit}
use Rattle.text_lines.specs.Numbers.{IsNumberBefore, capped, number_of, value_after}

-- the number that is spelled by the digits of n and these after them, with the cap
abbrev pub capped_after : ℕ → List ℕ → Option ℕ
capped_after n bs = if all_ascii_digits bs then Some (capped (value_after n bs)) else None

pub capped_value : (v w : ℕ) (bs : List ℕ) → capped v ≡ capped w → capped (value_after v bs) ≡ capped (value_after w bs)
capped_value v w [] h = h
capped_value v w (b ∷ bs) h = capped_value (10 * v + (b - 48)) (10 * w + (b - 48)) bs (omega arith)

-- one more digit
capped_digit : (n m b : ℕ) (bs : List ℕ) → is_ascii_digit b ≡ true → capped m ≡ capped (10 * n + (b - 48)) → capped_after m bs ≡ capped_after n (b ∷ bs)
capped_digit n m b bs digit same =
    rw digit (ap (λ (v : ℕ). if all_ascii_digits bs then Some v else None) (capped_value m (10 * n + (b - 48)) bs same))

pub capped_after-more : (n m : ℕ) (bs : List ℕ) (i : ℕ) → i < length bs → is_ascii_digit (get_or bs i 0) ≡ true → capped m ≡ capped (10 * n + (get_or bs i 0 - 48)) → capped_after m (drop (i + 1) bs) ≡ capped_after n (drop i bs)
capped_after-more n m bs i h digit same = rw (drop_more bs i 0 h) (capped_digit n m (get_or bs i 0) (drop (i + 1) bs) digit same)

-- a byte that is no digit
pub capped_after-stop : (n : ℕ) (bs : List ℕ) (i : ℕ) → i < length bs → is_ascii_digit (get_or bs i 0) ≡ false → capped_after n (drop i bs) ≡ None
capped_after-stop n bs i h other = rw (drop_more bs i 0 h, other) refl

-- the end of the field
pub capped_after-end : (n : ℕ) (bs : List ℕ) (i : ℕ) → length bs ≤ i → capped_after n (drop i bs) ≡ Some (capped n)
capped_after-end n bs i h = rw (drop_all i bs h) refl

-- the number of a field that isn't empty
pub capped_after-start : (bs : List ℕ) → 0 < length bs → option_map capped (number_of bs) ≡ capped_after 0 bs
capped_after-start [] h = absurd (omega arith)
capped_after-start (b ∷ bs) h = elim (all_ascii_digits (b ∷ bs)) as (λ t. option_map capped (cond t (Some (value_after 0 (b ∷ bs))) None) ≡ cond t (Some (capped (value_after 0 (b ∷ bs)))) None) [
  | true ↦ refl
  | false ↦ refl
]

-- At the front of a text, digit by digit

all_more : (ds : List ℕ) (b : ℕ) → all_ascii_digits ds ≡ true → is_ascii_digit b ≡ true → all_ascii_digits (ds ++ b ∷ []) ≡ true
all_more [] b all digit = rw digit refl
all_more (d ∷ ds) b all digit =
    let parts = and_parts (is_ascii_digit d) (all_ascii_digits ds) all in
    rw parts.0 (all_more ds b parts.1 digit)

value_more : (n : ℕ) (ds : List ℕ) (b : ℕ) → value_after n (ds ++ b ∷ []) ≡ 10 * value_after n ds + (b - 48)
value_more n [] b = refl
value_more n (d ∷ ds) b = value_more (10 * n + (d - 48)) ds b

number_is : (ds : List ℕ) → 0 < length ds → all_ascii_digits ds ≡ true → number_of ds ≡ Some (value_after 0 ds)
number_is [] h all = absurd (omega arith)
number_is (d ∷ ds) h all = cond-true (all_ascii_digits (d ∷ ds)) (Some (value_after 0 (d ∷ ds))) None all

-- the first i bytes of a text are digits that spell this number
pub record AreDigits (text : List ℕ) (i number : ℕ) : Type 0 where
  pub digits : all_ascii_digits (take i text) ≡ true
  pub spell : value_after 0 (take i text) ≡ number

pub digits_more : (text : List ℕ) (i n m : ℕ) → i < length text → AreDigits text i n → is_ascii_digit (get_or text i 0) ≡ true → m ≡ 10 * n + (get_or text i 0 - 48) → AreDigits text (i + 1) m
digits_more text i n m h so_far digit is =
    let more = take_more text i 0 h in
    record {
      digits = rw more (all_more (take i text) (get_or text i 0) so_far.digits digit);
      spell = rw more (value_more 0 (take i text) (get_or text i 0) ∙ ap (λ (v : ℕ). 10 * v + (get_or text i 0 - 48)) so_far.spell ∙ sym is);
    }

pub digits_before : (stop : ℕ) (text rest : List ℕ) (i n : ℕ) → i < length text → 0 < i → AreDigits text i n → get_or text i 0 ≡ stop → rest ≡ drop (i + 1) text → IsNumberBefore stop text n rest
digits_before stop text rest i n h some so_far here rest_is = record {
  field = take i text;
  text_is = rw (rest_is, sym here) (sym (take-append-drop i text) ∙ ap (λ (after : List ℕ). take i text ++ after) (drop_more text i 0 h));
  spells = number_is (take i text) (omega (arith, length-take i text)) so_far.digits ∙ ap (λ (v : ℕ). Some v) so_far.spell;
}

-- a text that begins with a letter and a space
pub letter_front : (text rest : List ℕ) (letter : ℕ) → 2 ≤ length text → get_or text 0 0 ≡ letter → get_or text 1 0 ≡ 32 → rest ≡ drop 2 text → text ≡ letter ∷ 32 ∷ rest
letter_front [] rest letter h first second is = absurd (omega arith)
letter_front (b ∷ []) rest letter h first second is = absurd (omega arith)
letter_front (b ∷ c ∷ text) rest letter h first second is = ap (λ (x : ℕ). x ∷ c ∷ text) first ∙ ap (λ (x : ℕ). letter ∷ x ∷ text) second ∙ ap (λ (t : List ℕ). letter ∷ 32 ∷ t) (sym is)
