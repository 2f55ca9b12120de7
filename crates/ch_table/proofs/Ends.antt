-- The places of targets, one by one.
use Rattle.std.proofs.Common.{ℕ, ◌≡◌, ◌+◌, ◌<◌, ◌≤◌, List, [], ◌∷◌, ◌++◌, length, slice_index, All, ap, sym, ◌∙◌, inl, inr, arith}
use Rattle.std.proofs.lemmas.Bool.{cases_lt}
use Rattle.std.proofs.lemmas.List.{get_or_append_left, get_or_push, length-append}
use Rattle.ch_graph.specs.Hierarchy.{Hierarchy, rank_of}
use Rattle.ch_table.specs.Selection.{AreEnds}

-- the first n are listed
pub record AreEndsTo (h : Hierarchy) (targets ranks ends : List ℕ) (n : ℕ) : Type 0 where
  pub count : length ends ≡ n
  pub each : (k : ℕ) → k < n → (slice_index ends k < length ranks) × (slice_index ranks (slice_index ends k) ≡ rank_of h (slice_index targets k))

pub ends-none : (h : Hierarchy) (targets ranks ends : List ℕ) → ends ≡ [] → AreEndsTo h targets ranks ends 0
ends-none h targets ranks ends is = record { count = ap length is; each = λ k low. absurd (omega (arith, low)) }

pub ends-more : (h : Hierarchy) (targets ranks ends : List ℕ) (n place : ℕ) → place < length ranks → slice_index ranks place ≡ rank_of h (slice_index targets n) → AreEndsTo h targets ranks ends n → AreEndsTo h targets ranks (ends ++ place ∷ []) (n + 1)
ends-more h targets ranks ends n place place_in is was = record {
  count = length-append ends (place ∷ []) ∙ ap (λ x. x + 1) was.count;
  each = λ k low. elim (cases_lt k n) [
    | inl before ↦
        let reads : slice_index (ends ++ place ∷ []) k ≡ slice_index ends k = get_or_append_left ends (place ∷ []) 0 k (omega (arith, before, was.count)) in
        let one = was.each k before in
        (omega (arith, reads, one.0), ap (slice_index ranks) reads ∙ one.1)
    | inr last ↦
        let here : k ≡ n = omega (arith, low, last) in
        let reads : slice_index (ends ++ place ∷ []) k ≡ place = get_or_push ends place 0 k (was.count ∙ sym here) in
        (omega (arith, reads, place_in), ap (slice_index ranks) reads ∙ (is ∙ ap (λ j. rank_of h (slice_index targets j)) (sym here)))
  ];
}

pub ends-all : (h : Hierarchy) (targets ranks ends : List ℕ) (n : ℕ) → n ≤ length targets → length targets ≤ n → All (λ t. t < length h.ranks) targets → AreEndsTo h targets ranks ends n → AreEnds h targets ranks ends
ends-all h targets ranks ends n within whole targets_in is = record {
  targets_in = targets_in;
  count = omega (arith, is.count, within, whole);
  each = λ k low. is.each k (omega (arith, low, whole));
}
