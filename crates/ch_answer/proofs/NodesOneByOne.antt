-- The nodes of a line, one by one.
use Rattle.std.proofs.Common.{ℕ, ◌≡◌, ◌+◌, ◌<◌, ◌≤◌, List, ◌∷◌, ◌++◌, length, map, take, drop, get_or, sym, ◌∙◌, ap, arith, drop-cons, add-one, ◌-◌, codes, decimal}
use Rattle.std.specs.List.{concat}
use Rattle.std.proofs.lemmas.List.{map-append}
use Rattle.std.proofs.Math.Seq.{take-add}
use Rattle.std.proofs.lemmas.List.Folds.{concat-append}
use Rattle.ch_answer.specs.Line.{named}

abbrev pub node_text : ℕ → List ℕ
node_text n = codes " " ++ decimal (n + 1)

named-append : (nodes more : List ℕ) → named (nodes ++ more) ≡ named nodes ++ named more
named-append nodes more = ap concat (map-append node_text nodes more) ∙ concat-append (map node_text nodes) (map node_text more)

-- the nodes between two places more
pub named-more : (nodes : List ℕ) (at end : ℕ) → at ≤ end → named (take at nodes) ++ named (take (end - at) (drop at nodes)) ≡ named (take end nodes)
named-more nodes at end within =
    let parts : at + (end - at) ≡ end = omega arith in
    sym (named-append (take at nodes) (take (end - at) (drop at nodes))) ∙ ap named (sym (take-add at (end - at) nodes)) ∙ ap (λ n. named (take n nodes)) parts

-- one node before others
pub named-before : (nodes text : List ℕ) (k n : ℕ) → k < length nodes → n ≡ get_or nodes k 0 → text ≡ decimal (n + 1) ++ named (drop (k + 1) nodes) → 32 ∷ text ≡ named (drop k nodes)
named-before nodes text k n within same is =
    ap (λ (t : List ℕ). 32 ∷ t) (is ∙ ap (λ m. decimal (m + 1) ++ named (drop (k + 1) nodes)) same) ∙ ap named (sym (drop-cons nodes k 0 within ∙ ap (λ m. get_or nodes k 0 ∷ drop m nodes) (sym (add-one k))))
