-- The arcs that leave the node that was settled last, followed one by one.
use Rattle.std.proofs.Common.{◌≡◌, ℕ, ◌<◌, ◌≤◌, List, length, Some, refl, sym, subst, ◌∙◌, inl, inr, arith}
use Rattle.std.proofs.lemmas.Bool.{cases_lt}
use Rattle.std.proofs.lemmas.List.{length-set}
use Rattle.std.proofs.lemmas.List.Elements.{Contains-get_or}
use Rattle.ch_cost.specs.declared.cost.Cost.{Cost}
use Rattle.ch_cost.specs.Cost.{◌⊕◌, of_weight, ◌≼◌}
use Rattle.ch_cost.specs.Cost.Laws.{at_most_refl}
use Rattle.ch_graph.specs.declared.mark.Mark.{Mark}
use Rattle.ch_graph.specs.declared.mark.Mark.TheVariants.{Open, Settled}
use Rattle.ch_graph.specs.Graph.{Graph, ArcOf}
use Rattle.ch_graph.specs.Marks.{mark, IsAtMost, settled_count}
use Rattle.ch_graph.specs.Outgoing.{road_at, IsLastFrom}
use Rattle.ch_graph.specs.Searching.{LeadsTo, IsOpenedBy}
use Rattle.ch_graph.specs.Search.{own_cost, IsOffered, IsOpenedFrom}
use Rattle.ch_graph.specs.Marks.Laws.{put-set, label_open, at_most-from_label, not_improves-at_most, improves-unsettled, count-open}
use Rattle.ch_graph.specs.Searching.Laws.{opened-none, opened-one}
use Rattle.ch_graph.specs.Searching.Laws as searching

-- no arc was followed yet
pub opened-start : (g : Graph) (v : ℕ) (c : Cost) (marks : List (Mark Cost)) → IsOpenedFrom g v c marks marks
opened-start g v c marks = record { nodes = refl; count = refl; is = opened-none own_cost (LeadsTo (ArcOf g) v c) (mark marks) }

module _ (mid new : List (Mark Cost)) (u : ℕ) (e : Cost) (place : u < length mid) (offered : IsOffered mid u e new) where
  -- the node's mark is at most what was offered
  pub offer-at_most : ((d : Cost) → mark mid u ≡ Settled d → d ≼ e) → IsAtMost own_cost (mark new u) e
  offer-at_most latest = elim offered [
    | inl put ↦ subst (λ (ls : List (Mark Cost)). IsAtMost own_cost (mark ls u) e) (sym put.1) (at_most-from_label own_cost _ e e (label_open _ e (put-set mid u (Open e) place).here) (at_most_refl e))
    | inr same ↦ subst (λ (ls : List (Mark Cost)). IsAtMost own_cost (mark ls u) e) (sym same.1) (not_improves-at_most own_cost (mark mid u) e same.0 latest)
  ]

  offer-count : settled_count new ≡ settled_count mid
  offer-count = elim offered [
    | inl put ↦ subst (λ (ls : List (Mark Cost)). settled_count ls ≡ settled_count mid) (sym put.1) (count-open mid u e place (improves-unsettled own_cost (mark mid u) e put.0))
    | inr same ↦ subst (λ (ls : List (Mark Cost)). settled_count ls ≡ settled_count mid) (sym same.1) refl
  ]

  offer-nodes : length new ≡ length mid
  offer-nodes = elim offered [
    | inl put ↦ subst (λ (ls : List (Mark Cost)). length ls ≡ length mid) (sym put.1) (length-set mid u (Open e))
    | inr same ↦ subst (λ (ls : List (Mark Cost)). length ls ≡ length mid) (sym same.1) refl
  ]

  module _ (g : Graph) {v : ℕ} {c : Cost} (leads : LeadsTo (ArcOf g) v c u e) where
    pub offer-opened : IsOpenedBy own_cost (LeadsTo (ArcOf g) v c) (mark mid) (mark new)
    offer-opened = elim offered [
      | inl put ↦ subst (λ (ls : List (Mark Cost)). IsOpenedBy own_cost (LeadsTo (ArcOf g) v c) (mark mid) (mark ls)) (sym put.1) (opened-one own_cost (LeadsTo (ArcOf g) v c) u e leads put.0 (put-set mid u (Open e) place))
      | inr same ↦ subst (λ (ls : List (Mark Cost)). IsOpenedBy own_cost (LeadsTo (ArcOf g) v c) (mark mid) (mark ls)) (sym same.1) (opened-none own_cost (LeadsTo (ArcOf g) v c) (mark mid))
    ]

    -- one more arc was followed
    pub opened-more : {old : List (Mark Cost)} → IsOpenedFrom g v c old mid → IsOpenedFrom g v c old new
    opened-more before = record {
      nodes = offer-nodes ∙ before.nodes;
      count = offer-count ∙ before.count;
      is = searching.opened-more own_cost (LeadsTo (ArcOf g) v c) before.is offer-opened;
    }

-- the arc at a place leads from its node on
pub leads-road : (g : Graph) {v : ℕ} (c : Cost) (k : ℕ) → k < length g.arcs → (road_at g.arcs k).from ≡ v → LeadsTo (ArcOf g) v c (road_at g.arcs k).to (c ⊕ of_weight (road_at g.arcs k).weight)
leads-road g c k h leaves = record {
  arc = of_weight (road_at g.arcs k).weight;
  goes = record { road = road_at g.arcs k; among = Contains-get_or g.arcs k (record { from = 0; to = 0; weight = 0 }) h; from = leaves; to = refl; costs = refl };
  sum = refl;
}

-- the arc at j was followed, and with it each from j on
pub followed-more : (g : Graph) {v : ℕ} (c : Cost) {from : ℕ} (j : ℕ) (mid new : List (Mark Cost)) → IsLastFrom g.arcs v from (Some j)
    → ((u : ℕ) (d : Cost) → IsAtMost own_cost (mark mid u) d → IsAtMost own_cost (mark new u) d)
    → IsAtMost own_cost (mark new (road_at g.arcs j).to) (c ⊕ of_weight (road_at g.arcs j).weight)
    → ((k : ℕ) → from ≤ k → k < length g.arcs → (road_at g.arcs k).from ≡ v
    → IsAtMost own_cost (mark mid (road_at g.arcs k).to) (c ⊕ of_weight (road_at g.arcs k).weight)) → (k : ℕ) → j ≤ k → k < length g.arcs
    → (road_at g.arcs k).from ≡ v → IsAtMost own_cost (mark new (road_at g.arcs k).to) (c ⊕ of_weight (road_at g.arcs k).weight)
followed-more g c {from} j mid new last kept this before k later h leaves = elim (cases_lt k from) [
  | inl below ↦ let same : j ≡ k = omega (arith, last.latest k below leaves) in subst (λ i. IsAtMost own_cost (mark new (road_at g.arcs i).to) (c ⊕ of_weight (road_at g.arcs i).weight)) same this
  | inr above ↦ kept (road_at g.arcs k).to (c ⊕ of_weight (road_at g.arcs k).weight) (before k above h leaves)
]
