-- The lines of a text, by the place of the first line feed.
use Rattle.std.proofs.Common.{ℕ, ◌≡◌, ◌+◌, ◌<◌, true, false, eqb, List, [], ◌∷◌, ◌++◌, length, take, drop, get_or, arith, refl, ap, sym, ◌∙◌, zero, suc}
use Rattle.std.proofs.lemmas.Bool.{cond-true, cond-false}
use Rattle.std.proofs.lemmas.List.{append-nil, append_assoc}
use Rattle.text_lines.specs.Lines.{cut_after, line_feeds}

-- the first line feed is at i
pub cut_at : (begun text more : List ℕ) (i : ℕ) → i < length text → eqb (get_or text i 0) 10 ≡ true → ((j : ℕ) → j < i → eqb (get_or text j 0) 10 ≡ false) → cut_after begun (text ++ more) ≡ (begun ++ take i text) ∷ cut_after [] (drop (suc i) text ++ more)
cut_at begun [] more i h here before = absurd (omega arith)
cut_at begun (b ∷ text) more zero h here before = cond-true (eqb b 10) (begun ∷ cut_after [] (text ++ more)) (cut_after (begun ++ b ∷ []) (text ++ more)) here ∙ ap (λ (line : List ℕ). line ∷ cut_after [] (text ++ more)) (sym (append-nil begun))
cut_at begun (b ∷ text) more (suc i) h here before = cond-false (eqb b 10) (begun ∷ cut_after [] (text ++ more))
    (cut_after (begun ++ b ∷ []) (text ++ more)) (before 0 (omega arith))
    ∙ cut_at (begun ++ b ∷ []) text more i (omega arith) here (λ j k. before (suc j) (omega arith))
    ∙ ap (λ (line : List ℕ). line ∷ cut_after [] (drop (suc i) text ++ more)) (append_assoc begun (b ∷ []) (take i text))

-- no line feed is there
pub cut_none : (begun text more : List ℕ) → ((j : ℕ) → j < length text → eqb (get_or text j 0) 10 ≡ false) → cut_after begun (text ++ more) ≡ cut_after (begun ++ text) more
cut_none begun [] more none = ap (λ (line : List ℕ). cut_after line more) (sym (append-nil begun))
cut_none begun (b ∷ text) more none = cond-false (eqb b 10) (begun ∷ cut_after [] (text ++ more)) (cut_after (begun ++ b ∷ []) (text ++ more))
    (none 0 (omega arith)) ∙ cut_none (begun ++ b ∷ []) text more (λ j k. none (suc j) (omega arith))
    ∙ ap (λ (line : List ℕ). cut_after line more) (append_assoc begun (b ∷ []) text)

pub feeds_at : (text : List ℕ) (i : ℕ) → i < length text → eqb (get_or text i 0) 10 ≡ true → ((j : ℕ) → j < i → eqb (get_or text j 0) 10 ≡ false) → line_feeds text ≡ line_feeds (drop (suc i) text) + 1
feeds_at [] i h here before = absurd (omega arith)
feeds_at (b ∷ text) zero h here before = cond-true (eqb b 10) (line_feeds text + 1) (line_feeds text) here
feeds_at (b ∷ text) (suc i) h here before = cond-false (eqb b 10) (line_feeds text + 1) (line_feeds text) (before 0 (omega arith)) ∙ feeds_at text i (omega arith) here (λ j k. before (suc j) (omega arith))

pub feeds_none : (text : List ℕ) → ((j : ℕ) → j < length text → eqb (get_or text j 0) 10 ≡ false) → line_feeds text ≡ 0
feeds_none [] none = refl
feeds_none (b ∷ text) none = cond-false (eqb b 10) (line_feeds text + 1) (line_feeds text) (none 0 (omega arith)) ∙ feeds_none text (λ j k. none (suc j) (omega arith))
