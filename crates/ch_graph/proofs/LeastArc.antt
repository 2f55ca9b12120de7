-- The least arc between two nodes, as one more arc is counted.
use Rattle.std.proofs.Common.{ℕ, ◌≡◌, ◌⊎◌, List, [], ◌∷◌, ◌++◌, Option, Some, None, refl, ap, subst, ◌∙◌, inl, inr}
use Rattle.std.proofs.lemmas.List.Elements.{Contains-append_left, Contains-push, Contains-push_cases}
use Rattle.ch_cost.specs.declared.cost.Cost.{Cost}
use Rattle.ch_cost.specs.Cost.{of_weight, ◌≼◌}
use Rattle.ch_cost.specs.Cost.Laws.{at_most_refl, at_most_trans}
use Rattle.ch_graph.specs.declared.road.Road.{Road}
use Rattle.ch_graph.specs.Walk.{IsLeastOrNone}
use Rattle.ch_graph.specs.Graph.{ArcOf}

-- the arc goes from x to y and costs c
pub record Goes (r : Road) (x y : ℕ) (c : Cost) : Type 0 where
  pub from : r.from ≡ x
  pub to : r.to ≡ y
  pub costs : of_weight r.weight ≡ c

module _ (n : ℕ) (rs : List Road) (r : Road) (x y : ℕ) where
  arc-old : {c : Cost} → ArcOf (record { nodes = n; arcs = rs }) x y c → ArcOf (record { nodes = n; arcs = rs ++ r ∷ [] }) x y c
  arc-old a = record { road = a.road; among = Contains-append_left rs (r ∷ []) a.road a.among; from = a.from; to = a.to; costs = a.costs }

  arc-new : {c : Cost} → Goes r x y c → ArcOf (record { nodes = n; arcs = rs ++ r ∷ [] }) x y c
  arc-new a = record { road = r; among = Contains-push rs r; from = a.from; to = a.to; costs = a.costs }

  cases_arc : {c : Cost} → ArcOf (record { nodes = n; arcs = rs ++ r ∷ [] }) x y c → ArcOf (record { nodes = n; arcs = rs }) x y c ⊎ Goes r x y c
  cases_arc {c} a = elim (Contains-push_cases rs r a.road a.among) [
    | inl old ↦ inl (record { road = a.road; among = old; from = a.from; to = a.to; costs = a.costs })
    | inr is ↦ inr (record {
      from = ap (λ (q : Road). q.from) is ∙ a.from;
      to = ap (λ (q : Road). q.to) is ∙ a.to;
      costs = ap (λ (q : Road). of_weight q.weight) is ∙ a.costs;
    })
  ]

  -- an arc between other nodes changes nothing
  pub least-other : (o : Option Cost) → ((c : Cost) → Goes r x y c → ⊥) → IsLeastOrNone (ArcOf (record { nodes = n; arcs = rs }) x y) o → IsLeastOrNone (ArcOf (record { nodes = n; arcs = rs ++ r ∷ [] }) x y) o
  least-other None other h = λ c a. elim (cases_arc a) [ inl old ↦ h c old | inr new ↦ other c new ]
  least-other (Some k) other h = (arc-old h.0, λ d a. elim (cases_arc a) [ inl old ↦ h.1 d old | inr new ↦ absurd (other d new) ])

  -- nor does one that costs at least as much
  pub least-known : (k : Cost) → k ≼ of_weight r.weight → IsLeastOrNone (ArcOf (record { nodes = n; arcs = rs }) x y) (Some k) → IsLeastOrNone (ArcOf (record { nodes = n; arcs = rs ++ r ∷ [] }) x y) (Some k)
  least-known k most h = (arc-old h.0, λ d a. elim (cases_arc a) [ inl old ↦ h.1 d old | inr new ↦ subst (λ e. k ≼ e) new.costs most ])

  -- an arc that costs less than each before, or is the first, is the least
  pub least-this : (o : Option Cost) → r.from ≡ x → r.to ≡ y → ((k : Cost) → o ≡ Some k → of_weight r.weight ≼ k) → IsLeastOrNone (ArcOf (record { nodes = n; arcs = rs }) x y) o → IsLeastOrNone (ArcOf (record { nodes = n; arcs = rs ++ r ∷ [] }) x y) (Some (of_weight r.weight))
  least-this o from to most h = (arc-new (record { from = from; to = to; costs = refl }), λ d a. elim (cases_arc a) [ inl old ↦ before o most h d old | inr new ↦ subst (λ e. of_weight r.weight ≼ e) new.costs (at_most_refl (of_weight r.weight)) ]) where
    before : (o : Option Cost) → ((k : Cost) → o ≡ Some k → of_weight r.weight ≼ k) → IsLeastOrNone (ArcOf (record { nodes = n; arcs = rs }) x y) o → (d : Cost) → ArcOf (record { nodes = n; arcs = rs }) x y d → of_weight r.weight ≼ d
    before None most h d old = absurd (h d old)
    before (Some k) most h d old = at_most_trans (most k refl) (h.1 d old)
