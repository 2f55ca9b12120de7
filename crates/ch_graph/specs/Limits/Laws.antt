-- Laws of graphs within the limits: what their arcs are, and that a walk is within the bound or there is a cheaper one.
use Rattle.std.proofs.Common.{ℕ, ◌≡◌, ◌≢◌, ◌+◌, ◌-◌, ◌^◌, ◌<◌, ◌≤◌, ◌⊎◌, List, [], ◌∷◌, length, max, All, arith, add-one, ap, refl, sym, subst, ◌∙◌, inl, inr}
use Rattle.std.proofs.lemmas.List.Elements.{All-nil, All-cons, All-head, All-tail, All-weaker, All-contains}
use Rattle.ch_cost.specs.declared.cost.Cost.{Cost}
use Rattle.ch_cost.specs.Cost.{zero_cost, ◌⊕◌, of_weight, cost_of_arcs, arcs_of, ◌≺◌, IsWithin}
use Rattle.ch_cost.specs.Cost.Laws.{arc_above, arc_and_arcs_within, heavier_arcs_within, more_arcs_within, weight_fits, arcs_of-zero_cost, arcs_of-of_weight, arcs_of-sum, sum-zero_cost, within_trans, zero_cost_within}
use Rattle.ch_graph.specs.declared.road.Road.{Road}
use Rattle.ch_graph.specs.Walk.{Walk, Walk.stay, Walk.go, visited}
use Rattle.ch_graph.specs.Graph.{Graph, ArcOf}
use Rattle.ch_graph.specs.Limits.{IsRoad, IsGraph, heaviest, bound_of}
use Rattle.ch_graph.specs.Walk.Laws.{Cheaper, short_or_cheaper}

-- no arc is heavier than the heaviest
no_heavier : (rs : List Road) → All (λ (r : Road). r.weight ≤ heaviest rs) rs
no_heavier [] = All-nil (λ (r : Road). r.weight ≤ 0)
no_heavier (q ∷ rs) =
    All-cons (λ (r : Road). r.weight ≤ max q.weight (heaviest rs)) q rs (omega arith)
    (All-weaker (λ (r : Road). r.weight ≤ heaviest rs) (λ (r : Road). r.weight ≤ max q.weight (heaviest rs)) (λ r h. omega (arith, h)) rs (no_heavier rs))

-- and where each weight is allowed, the heaviest fits 32 bits
heaviest_fits : (n : ℕ) (rs : List Road) → All (IsRoad n) rs → heaviest rs ≤ 2 ^ 32 - 1
heaviest_fits n [] all = omega arith
heaviest_fits n (q ∷ rs) all =
    let fits : q.weight < 2 ^ 32 = weight_fits (All-head (IsRoad n) q rs all).weighs in
    omega (arith, fits, heaviest_fits n rs (All-tail (IsRoad n) q rs all))

-- so the bound is one that a file can have
pub bound-within : (g : Graph) → IsGraph g → IsWithin (bound_of g) (cost_of_arcs (g.nodes - 1) (2 ^ 32 - 1))
bound-within g is = heavier_arcs_within (g.nodes - 1) (heaviest g.arcs) (2 ^ 32 - 1) (heaviest_fits g.nodes g.arcs is.roads)

-- What an arc of a graph is: it costs more than nothing, and its ends are nodes.
pub record IsSound (g : Graph) (x y : ℕ) (c : Cost) : Type 0 where
  pub above : zero_cost ≺ c
  pub from_in : x < g.nodes
  pub to_in : y < g.nodes

-- every arc is so
pub arc-sound : (g : Graph) → IsGraph g → (x y : ℕ) (c : Cost) → ArcOf g x y c → IsSound g x y c
arc-sound g is x y c arc =
    let road : IsRoad g.nodes arc.road = All-contains (IsRoad g.nodes) g.arcs arc.road is.roads arc.among in
    record {
      above = subst (λ (d : Cost). zero_cost ≺ d) arc.costs (arc_above arc.road.weight);
      from_in = subst (λ n. n < g.nodes) arc.from road.from_in;
      to_in = subst (λ n. n < g.nodes) arc.to road.to_in;
    }

-- an arc counts one
pub arc-one : (g : Graph) (x y : ℕ) (c : Cost) → ArcOf g x y c → arcs_of c ≡ 1
arc-one g x y c arc = ap arcs_of (sym arc.costs) ∙ arcs_of-of_weight arc.road.weight

-- the arcs of a walk's cost are those of the walk
pub walk-arcs : (g : Graph) {x z : ℕ} {c : Cost} (w : Walk (ArcOf g) x z c) → arcs_of c ≡ length (visited w)
walk-arcs g stay = arcs_of-zero_cost
walk-arcs g (go {x = x} {y = y} {c = c} {d = d} arc rest) = omega (arith, arcs_of-sum c d, arc-one g x y c arc, walk-arcs g rest)

-- so a walk between two nodes counts some
pub walk-some : (g : Graph) {x z : ℕ} {c : Cost} → Walk (ArcOf g) x z c → x ≢ z → 0 < arcs_of c
walk-some g stay apart = absurd (apart refl)
walk-some g (go {x = x} {y = y} {c = c} {d = d} arc rest) apart = omega (arith, arcs_of-sum c d, arc-one g x y c arc)

-- a walk costs at most its number of arcs at the greatest weight
walk-within : (g : Graph) {x z : ℕ} {c : Cost} (w : Walk (ArcOf g) x z c) → IsWithin c (cost_of_arcs (length (visited w)) (heaviest g.arcs))
walk-within g stay = zero_cost_within (cost_of_arcs 0 (heaviest g.arcs))
walk-within g (go {c = c} {d = d} arc rest) =
    let n : ℕ = length (visited rest) in
    let heavy : arc.road.weight ≤ heaviest g.arcs = All-contains (λ (r : Road). r.weight ≤ heaviest g.arcs) g.arcs arc.road (no_heavier g.arcs) arc.among in
    let more : IsWithin (of_weight arc.road.weight ⊕ d) (cost_of_arcs (n + 1) (heaviest g.arcs)) = arc_and_arcs_within arc.road.weight n (heaviest g.arcs) d heavy (walk-within g rest) in
    subst (λ (e : Cost). IsWithin (e ⊕ d) (cost_of_arcs (length (visited (go arc rest))) (heaviest g.arcs))) arc.costs (rw (← add-one) more)

-- an arc between two nodes is within the bound
pub arc-within : (g : Graph) → IsGraph g → (x y : ℕ) (c : Cost) → x ≢ y → ArcOf g x y c → IsWithin c (bound_of g)
arc-within g is x y c apart arc =
    let sound : IsSound g x y c = arc-sound g is x y c arc in
    let one : IsWithin (c ⊕ zero_cost) (cost_of_arcs 1 (heaviest g.arcs)) = walk-within g (go arc stay) in
    let within : IsWithin c (cost_of_arcs 1 (heaviest g.arcs)) = subst (λ (d : Cost). IsWithin d (cost_of_arcs 1 (heaviest g.arcs))) (sum-zero_cost c) one in
    within_trans within (more_arcs_within 1 (g.nodes - 1) (heaviest g.arcs) (omega (arith, sound.from_in, sound.to_in, apart)))

-- a walk has fewer arcs than there are nodes, or there is a cheaper one
pub few_arcs_or_cheaper : (g : Graph) → IsGraph g → {x z : ℕ} {c : Cost} (w : Walk (ArcOf g) x z c) → (length (visited w) ≤ g.nodes - 1) ⊎ Cheaper (ArcOf g) x z c
few_arcs_or_cheaper g is stay = inl (omega arith)
few_arcs_or_cheaper g is (go {x = x} {y = y} {c = c} arc rest) =
    elim (short_or_cheaper g.nodes (λ a b d other. ((arc-sound g is a b d other).above, (arc-sound g is a b d other).to_in)) (go arc rest) (arc-sound g is x y c arc).from_in) [
      | inl few ↦ inl (omega (arith, few))
      | inr less ↦ inr less
    ]

-- a walk is within the bound, or there is a cheaper one
pub within_or_cheaper : (g : Graph) → IsGraph g → {x z : ℕ} {c : Cost} → Walk (ArcOf g) x z c → IsWithin c (bound_of g) ⊎ Cheaper (ArcOf g) x z c
within_or_cheaper g is w = elim (few_arcs_or_cheaper g is w) [
  | inl few ↦ inl (within_trans (walk-within g w) (more_arcs_within (length (visited w)) (g.nodes - 1) (heaviest g.arcs) few))
  | inr less ↦ inr less
]
