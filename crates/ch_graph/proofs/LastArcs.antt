-- The last arc that leaves a node, among ever more arcs.
use Rattle.std.proofs.Common.{◌≡◌, ℕ, ◌+◌, ◌<◌, ◌≤◌, List, length, set, get_or, Option, Some, None, refl, subst, sym, inl, inr, arith}
use Rattle.std.proofs.lemmas.Bool.{cases_eq, cases_lt}
use Rattle.std.proofs.lemmas.List.{get_or-set_same, get_or-set_other}
use Rattle.ch_graph.specs.declared.road.Road.{Road}
use Rattle.ch_graph.specs.Outgoing.{road_at, IsLastFrom}

-- how many places there are up to this one
abbrev pub places_to : Option ℕ → ℕ
places_to None = 0
places_to (Some j) = j + 1

-- the arc itself leaves the node
last_from-this : (arcs : List Road) (v n : ℕ) → (road_at arcs n).from ≡ v → IsLastFrom arcs v (n + 1) (Some n)
last_from-this arcs v n leaves = record {
  leaves = λ j is. let same : n ≡ j = cc in (omega arith, subst (λ k. (road_at arcs k).from ≡ v) same leaves);
  latest = λ k h is. omega arith;
}

-- the arc leaves another node
last_from-earlier : {arcs : List Road} {v n : ℕ} {last : Option ℕ} → ((road_at arcs n).from ≡ v → ⊥) → IsLastFrom arcs v n last → IsLastFrom arcs v (n + 1) last
last_from-earlier {arcs} {v} {n} other h = record {
  leaves = λ j is. (omega (arith, (h.leaves j is).0), (h.leaves j is).1);
  latest = λ k below is. elim (cases_lt k n) [
    | inl before ↦ h.latest k before is
    | inr after ↦ let same : k ≡ n = omega arith in absurd (other (subst (λ i. (road_at arcs i).from ≡ v) same is))
  ];
}

-- the arc is noted as the last of its node
pub lasts-more : (arcs : List Road) (last : List (Option ℕ)) (at : ℕ) → (road_at arcs at).from < length last → ((v : ℕ) → v < length last → IsLastFrom arcs v at (get_or last v None)) → (v : ℕ) → v < length last → IsLastFrom arcs v (at + 1) (get_or (set last (road_at arcs at).from (Some at)) v None)
lasts-more arcs last at place old v h = elim (cases_eq v (road_at arcs at).from) [
  | inl e ↦ subst (λ u. IsLastFrom arcs u (at + 1) (get_or (set last (road_at arcs at).from (Some at)) u None)) (sym e)
      (subst (λ o. IsLastFrom arcs (road_at arcs at).from (at + 1) o) (sym (get_or-set_same last (road_at arcs at).from (Some at) None place))
      (last_from-this arcs (road_at arcs at).from at refl))
  | inr other ↦ subst (λ o. IsLastFrom arcs v (at + 1) o) (sym (get_or-set_other last (road_at arcs at).from v (Some at) None other)) (last_from-earlier (λ e. other (sym e)) (old v h))
]

-- what was the last of its node is noted as the one before it
pub befores-more : {arcs : List Road} (before : List (Option ℕ)) {at : ℕ} {last : Option ℕ} → at < length before
    → IsLastFrom arcs (road_at arcs at).from at last → ((j : ℕ) → j < at → IsLastFrom arcs (road_at arcs j).from j (get_or before j None)) → (j : ℕ)
    → j < at + 1 → IsLastFrom arcs (road_at arcs j).from j (get_or (set before at last) j None)
befores-more {arcs} before {at} {last} place this old j h = elim (cases_eq j at) [
  | inl e ↦ subst (λ i. IsLastFrom arcs (road_at arcs i).from i (get_or (set before at last) i None)) (sym e) (subst (λ o. IsLastFrom arcs (road_at arcs at).from at o) (sym (get_or-set_same before at last None place)) this)
  | inr other ↦ subst (λ o. IsLastFrom arcs (road_at arcs j).from j o) (sym (get_or-set_other before at j last None other)) (old j (omega arith))
]

-- the last among this many is one of them
pub last_from-below : (arcs : List Road) (v n : ℕ) (last : Option ℕ) → IsLastFrom arcs v n last → places_to last ≤ n
last_from-below arcs v n None h = omega arith
last_from-below arcs v n (Some j) h = omega (arith, (h.leaves j refl).0)
