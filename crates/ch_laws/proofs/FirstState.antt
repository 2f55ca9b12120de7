-- The state before any contraction: each pair has its least arc.
use Rattle.std.proofs.Common.{ℕ, ◌≡◌, ◌≢◌, ◌⊎◌, List, [], ◌∷◌, Option, Some, None, arith, refl, sym, subst, inl, inr}
use Rattle.std.proofs.lemmas.Bool.{cases_eq}
use Rattle.ch_cost.specs.declared.cost.Cost.{Cost}
use Rattle.ch_cost.specs.Cost.{of_weight, ◌≼◌}
use Rattle.ch_cost.specs.Cost.Laws.{at_most_refl, at_most_trans, at_most-from_below, cases_cost}
use Rattle.ch_graph.specs.declared.road.Road.{Road}
use Rattle.ch_graph.specs.Graph.{Graph, ArcOf}
use Rattle.ch_laws.specs.Contraction.{State, StateArc, IsStartArc, IsStart}
use Rattle.ch_laws.specs.Members.{contains_first, contains_later, contains_cases}

-- a graph of these arcs
abbrev graph_of : ℕ → List Road → Graph
graph_of n rs = record { nodes = n; arcs = rs }

-- the arc is from x to y
abbrev Joins : Road → ℕ → ℕ → Type 0
Joins r x y = (r.from ≡ x) × (r.to ≡ y)

module _ (n : ℕ) (rs : List Road) (r : Road) (x y : ℕ) where
  -- an arc of the rest is one, and so is the first
  arc-later : {c : Cost} → ArcOf (graph_of n rs) x y c → ArcOf (graph_of n (r ∷ rs)) x y c
  arc-later arc = record { road = arc.road; among = contains_later r rs arc.road arc.among; from = arc.from; to = arc.to; costs = arc.costs }

  -- the first, where it joins them
  arc-first : Joins r x y → ArcOf (graph_of n (r ∷ rs)) x y (of_weight r.weight)
  arc-first joins = record { road = r; among = contains_first r rs; from = joins.0; to = joins.1; costs = refl }

  -- each is one of these
  arc-cases : {c : Cost} → ArcOf (graph_of n (r ∷ rs)) x y c → (Joins r x y × (of_weight r.weight ≡ c)) ⊎ ArcOf (graph_of n rs) x y c
  arc-cases {c} arc = elim (contains_cases r rs arc.road arc.among) [
    | inr later ↦ inr (record { road = arc.road; among = later; from = arc.from; to = arc.to; costs = arc.costs })
    | inl same ↦ inl (subst (λ (q : Road). Joins q x y × (of_weight q.weight ≡ c)) (sym same) ((arc.from, arc.to), arc.costs))
  ]

  -- an arc of other ends changes nothing
  start-later : (Joins r x y → ⊥) → (o : Option StateArc) → IsStartArc (graph_of n rs) x y o → IsStartArc (graph_of n (r ∷ rs)) x y o
  start-later other None none = λ c arc. elim (arc-cases arc) [ inl first ↦ other first.0 | inr later ↦ none c later ]
  start-later other (Some arc) is = ((arc-later is.0.0, λ d more. elim (arc-cases more) [ inl first ↦ absurd (other first.0) | inr later ↦ is.0.1 d later ]), is.1)

  -- an arc of these ends is the least now, or it isn't less than the least before
  start-first : Joins r x y → (o : Option StateArc) → IsStartArc (graph_of n rs) x y o → (p : Option StateArc) × IsStartArc (graph_of n (r ∷ rs)) x y p
  start-first joins None none = (
    Some (record { cost = of_weight r.weight; middle = None }),
    ((arc-first joins, λ d more. elim (arc-cases more) [ inl first ↦ subst (λ (c : Cost). of_weight r.weight ≼ c) first.1 (at_most_refl (of_weight r.weight)) | inr later ↦ absurd (none d later) ]), refl),
  )
  start-first joins (Some arc) is = elim (cases_cost (of_weight r.weight) arc.cost) [
    | inl less ↦ (
      Some (record { cost = of_weight r.weight; middle = None }),
      (
        (
          arc-first joins,
          λ d more. elim (arc-cases more) [
            | inl first ↦ subst (λ (c : Cost). of_weight r.weight ≼ c) first.1 (at_most_refl (of_weight r.weight))
            | inr later ↦ at_most_trans (at_most-from_below less) (is.0.1 d later)
          ],
        ),
        refl,
      ),
    )
    | inr at_least ↦ (
      Some arc,
      (
        (
          arc-later is.0.0,
          λ d more. elim (arc-cases more) [
            | inl first ↦ subst (λ (c : Cost). arc.cost ≼ c) first.1 at_least
            | inr later ↦ is.0.1 d later
          ],
        ),
        is.1,
      ),
    )
  ]

-- each pair has a least arc, or none
start-arc : (n : ℕ) (rs : List Road) (x y : ℕ) → (o : Option StateArc) × IsStartArc (graph_of n rs) x y o
start-arc n [] x y = (None, λ c arc. absurd (omega (arith, arc.among.1)))
start-arc n (r ∷ rs) x y =
    let before = start-arc n rs x y in
    elim (cases_eq r.from x) [
      | inr other ↦ (before.0, start-later n rs r x y (λ joins. other joins.0) before.0 before.1)
      | inl from ↦ elim (cases_eq r.to y) [
        | inr other ↦ (before.0, start-later n rs r x y (λ joins. other joins.1) before.0 before.1)
        | inl to ↦ start-first n rs r x y (from, to) before.0 before.1
      ]
    ]

-- the same of a graph
pub least_arc : (g : Graph) (x y : ℕ) → (o : Option StateArc) × IsStartArc g x y o
least_arc g x y = start-arc g.nodes g.arcs x y

-- of a node and itself none is taken
start-pair : (g : Graph) (x y : ℕ) → (o : Option StateArc) × (x ≡ y → o ≡ None) × (x ≢ y → IsStartArc g x y o)
start-pair g x y = elim (cases_eq x y) [
  | inl same ↦ (None, λ is. refl, λ other. absurd (other same))
  | inr other ↦ ((start-arc g.nodes g.arcs x y).0, λ same. absurd (other same), λ is. (start-arc g.nodes g.arcs x y).1)
]

-- so each graph has a start
pub has_start : (g : Graph) → (s : State) × IsStart g s
has_start g = (
  record { nodes = g.nodes; order = []; arc = λ x y. (start-pair g x y).0 },
  record {
    nodes = refl;
    order = refl;
    loops = λ x. (start-pair g x x).1 refl;
    arcs = λ x y other. (start-pair g x y).2 other;
  },
)
