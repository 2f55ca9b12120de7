-- Nodes that are placed are fewer than the places, as long as one has none.
use Rattle.std.proofs.Common.{ℕ, ◌≡◌, ◌≢◌, ◌<◌, List, ◌∷◌, eqb, length, slice_index, get_or, AllPairs, Contains, arith, sym, subst, ap, ◌∙◌, inl, inr}
use Rattle.std.proofs.lemmas.Bool.Decides.{nat_tests, Decides-eqb}
use Rattle.std.proofs.lemmas.List.{get_or_default}
use Rattle.std.proofs.lemmas.List.Elements.{All-from_get_or}
use Rattle.std.proofs.lemmas.List.Kept.{AllPairs-cons}
use Rattle.std.proofs.lemmas.Map.Made.{IsDistinct-from_AllPairs}
use Rattle.std.proofs.lemmas.Map.Steps.{length-le_from_distinct_below}
use Rattle.std.proofs.lemmas.Map.Views.{Contains-from_any}
use Rattle.ch_laws.specs.Members.{contains_cases, place_of}
use Rattle.ch_witness.specs.Places.{ArePlacesOf}

-- no node occurs twice
placed_once : {places nodes : List ℕ} → ArePlacesOf places nodes → AllPairs (λ x y. x ≢ y) nodes
placed_once {places} {nodes} placed i j d before within same = omega (arith, before, at_i, at_j)
  where
    low : i < length nodes
    low = omega (arith, before, within)

    at_i : slice_index places (slice_index nodes i) ≡ i
    at_i = placed.here i low

    at_j : slice_index places (slice_index nodes i) ≡ j
    at_j = ap (λ n. slice_index places n) (get_or_default nodes i 0 d low ∙ same ∙ get_or_default nodes j d 0 within) ∙ placed.here j within

-- so with one more node there are no more of them than places
pub few_placed : {places nodes : List ℕ} → ArePlacesOf places nodes → (node : ℕ) → node < length places → ((k : ℕ) → k < length nodes → slice_index nodes k ≢ node) → length nodes < length places
few_placed {places} {nodes} placed node room absent = length-le_from_distinct_below (node ∷ nodes) (length places) (IsDistinct-from_AllPairs Decides-eqb (node ∷ nodes) once) (λ q among. below q (Contains-from_any {eq = eqb} (λ x y. λ e. grind (arith, nat_tests, e)) q (node ∷ nodes) among))
  where
    apart : (k : ℕ) → k < length nodes → node ≢ get_or nodes k 0
    apart k within same = absent k within (sym same)

    once : AllPairs (λ x y. x ≢ y) (node ∷ nodes)
    once = AllPairs-cons (λ x y. x ≢ y) node nodes (All-from_get_or (λ x. node ≢ x) nodes 0 apart) (placed_once placed)

    below : (q : ℕ) → Contains (node ∷ nodes) q → q < length places
    below q among = elim (contains_cases node nodes q among) [
      | inl same ↦ subst (λ n. n < length places) same room
      | inr later ↦ subst (λ n. n < length places) (place_of nodes q later) (placed.within later.0 later.1)
    ]
