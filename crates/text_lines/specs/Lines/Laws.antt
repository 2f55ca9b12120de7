-- The lines of a text that comes in parts.
use Rattle.std.proofs.Common.{ℕ, ◌≡◌, ◌+◌, true, false, cond, eqb, List, [], ◌∷◌, ◌++◌, map, arith, refl, ap, ◌∙◌}
use Rattle.std.specs.List.{onto_first}
use Rattle.std.specs.Str.Lines.{strip_carriage_return}
use Rattle.text_lines.specs.Lines.{cut_after, cut_lines, last_line, line_feeds, lines_after, lines_of}

-- of two parts
pub feeds_both : (text more : List ℕ) → line_feeds (text ++ more) ≡ line_feeds text + line_feeds more
feeds_both [] more = omega arith
feeds_both (b ∷ text) more =
    let rest = feeds_both text more in
    elim (eqb b 10) as (λ t. cond t (line_feeds (text ++ more) + 1) (line_feeds (text ++ more)) ≡ cond t (line_feeds text + 1) (line_feeds text) + line_feeds more) [
      | true ↦ omega (arith, rest)
      | false ↦ omega (arith, rest)
    ]

-- one byte before the part of the first line

last_onto : (b : ℕ) (begun : List ℕ) → last_line (b ∷ begun) ≡ onto_first b (last_line begun)
last_onto b [] = refl
last_onto b (c ∷ begun) = refl

cut_onto : (b : ℕ) (begun text : List ℕ) → cut_after (b ∷ begun) text ≡ onto_first b (cut_after begun text)
cut_onto b begun [] = last_onto b begun
cut_onto b begun (c ∷ text) = elim (eqb c 10) as (λ t. cond t ((b ∷ begun) ∷ cut_after [] text) (cut_after (b ∷ begun ++ c ∷ []) text) ≡ onto_first b (cond t (begun ∷ cut_after [] text) (cut_after (begun ++ c ∷ []) text))) [
  | true ↦ refl
  | false ↦ cut_onto b (begun ++ c ∷ []) text
]

pub cut_first : (text : List ℕ) → cut_after [] text ≡ cut_lines text
cut_first [] = refl
cut_first (b ∷ text) = elim (eqb b 10) as (λ t. cond t ([] ∷ cut_after [] text) (cut_after (b ∷ []) text) ≡ cond t ([] ∷ cut_lines text) (onto_first b (cut_lines text))) [
  | true ↦ ap (λ (lines : List (List ℕ)). [] ∷ lines) (cut_first text)
  | false ↦ cut_onto b [] text ∙ ap (onto_first b) (cut_first text)
]

-- before any byte was taken
pub lines_first : (text : List ℕ) → lines_after [] text ≡ lines_of text
lines_first text = ap (map strip_carriage_return) (cut_first text)
