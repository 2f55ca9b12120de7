-- The plain search of a graph: its start, a turn, and the end.
use Rattle.std.proofs.Common.{◌≡◌, ℕ, ◌+◌, ◌<◌, List, set, replicate, Some, None, refl, sym, subst, ◌∙◌, inl, inr, arith}
use Rattle.std.proofs.lemmas.List.{length-set, length-replicate}
use Rattle.std.proofs.lemmas.List.Elements.{All-contains}
use Rattle.ch_cost.specs.declared.cost.Cost.{Cost}
use Rattle.ch_cost.specs.Cost.{zero_cost, ◌≼◌, IsOfArcs}
use Rattle.ch_cost.specs.Cost.Laws.{at_most_refl, at_most_trans, at_most_sum_left, of_arcs_zero_cost, of_arcs_arc, of_arcs_sum, of_arcs_more}
use Rattle.ch_graph.specs.declared.mark.Mark.{Mark}
use Rattle.ch_graph.specs.declared.mark.Mark.TheVariants.{Unseen, Open, Settled}
use Rattle.ch_graph.specs.Graph.{Graph, ArcOf, IsDistance}
use Rattle.ch_graph.specs.Limits.{IsGraph, IsRoad}
use Rattle.ch_graph.specs.Marks.{mark, HasLabel, Improves, IsPut, settled_count}
use Rattle.ch_graph.specs.Searching.{LeadsTo, IsOrder, IsDownward, IsTurn}
use Rattle.ch_graph.specs.Search.{SettledIsLeast, own_cost, Any, IsNoDearer, IsOffered, NoneOpen, IsLeastOpen, IsLatest, IsOpenedFrom, IsFollowed, IsSearchTo, AreDistances}
use Rattle.ch_graph.specs.Marks.Laws.{cases_put, put-set, mark-replicate, open-in, label_open, label_settled, unseen-label, one_label, unseen-settled, open-settled, count-settle}
use Rattle.ch_graph.specs.Searching.Laws as searching
use Rattle.ch_graph.specs.Searching.Laws.{only-walk, only-started, settle-settled, settle-latest, turn-settled, turn-label, least_open_is_least, none_open-no_walk}

-- an arc makes a walk no cheaper, so the order of costs is one of settling
above : (g : Graph) (c d : Cost) (v u : ℕ) → LeadsTo (ArcOf g) v c u d → c ≼ d
above g c d v u leads = subst (λ (e : Cost). c ≼ e) leads.sum (at_most_sum_left c leads.arc)

by_costs : (g : Graph) → IsOrder (ArcOf g) IsNoDearer
by_costs g = record {
  same = λ c v. at_most_refl c;
  chain = λ b c d u v w first second. at_most_trans first second;
  onward = λ c d v u leads. above g c d v u leads;
  back = λ b c d v u leads before. at_most_trans before (above g c d v u leads);
}

any_downward : IsDownward Any
any_downward c d most counts = tt

arc-fits : {g : Graph} {x y : ℕ} {c : Cost} → IsGraph g → ArcOf g x y c → IsOfArcs 1 c
arc-fits {g} graph arc = subst (IsOfArcs 1) arc.costs (of_arcs_arc (All-contains (IsRoad g.nodes) g.arcs arc.road graph.roads arc.among).weighs)

-- what is settled has its distance
pub settled_is_least : SettledIsLeast
settled_is_least g s marks search v c is = (only-walk (search.walks v c (label_settled (marks v) c is)), λ d walk. searching.settled_is_least own_cost any_downward search (by_costs g) v c is d (only-started walk) tt)

-- The start: only s is open, and its walk costs nothing

module _ (g : Graph) (s t : ℕ) (s_in : s < g.nodes) where
  abbrev unseen : List (Mark Cost)
  unseen = replicate g.nodes Unseen

  abbrev first : List (Mark Cost)
  first = set (replicate g.nodes Unseen) s (Open zero_cost)

  put : IsPut (mark unseen) s (Open zero_cost) (mark first)
  put = put-set unseen s (Open zero_cost) (omega (arith, s_in, length-replicate {A = Mark Cost} g.nodes Unseen))

  none_settled : (u : ℕ) (d : Cost) → mark first u ≡ Settled d → ⊥
  none_settled u d is = elim (cases_put put u) [
    | inl w ↦ open-settled (sym w.reads ∙ is)
    | inr k ↦ unseen-settled (sym (mark-replicate g.nodes u) ∙ (sym k.reads ∙ is))
  ]

  first-cost : (u : ℕ) (c : Cost) → HasLabel (mark first u) c → zero_cost ≡ c
  first-cost u c has = elim (cases_put put u) [
    | inl w ↦ one_label (mark first u) zero_cost c (label_open (mark first u) zero_cost w.reads) has
    | inr k ↦ absurd (unseen-label (mark first u) c (k.reads ∙ mark-replicate g.nodes u) has)
  ]

  first-search : IsSearchTo g s t first
  first-search = record {
    nodes = length-set unseen s (Open zero_cost) ∙ length-replicate {A = Mark Cost} g.nodes Unseen;
    is = searching.search-start own_cost s zero_cost (mark-replicate g.nodes) put refl;
    fits = λ v c has. subst (λ (e : Cost). IsOfArcs (settled_count first) e) (first-cost v c has) (of_arcs_zero_cost (settled_count first));
    unsettled = λ c closed. none_settled t c closed;
  }

  pub search-start : (marks : List (Mark Cost)) → IsOffered (replicate g.nodes Unseen) s zero_cost marks → IsSearchTo g s t marks
  search-start marks offered = elim offered [
    | inl opened ↦ subst (IsSearchTo g s t) (sym opened.1) first-search
    | inr kept ↦ absurd (kept.0 (subst (λ (m : Mark Cost). Improves own_cost zero_cost m) (sym (mark-replicate g.nodes s)) tt))
  ]

-- A turn: v is settled, of which the arcs are then followed

module _ (g : Graph) (s t : ℕ) (old : List (Mark Cost)) (v : ℕ) (c : Cost) (search : IsSearchTo g s t old) (next : IsLeastOpen old v c) where
  abbrev mid : List (Mark Cost)
  mid = set old v (Settled c)

  settles : IsPut (mark old) v (Settled c) (mark mid)
  settles = put-set old v (Settled c) (open-in old v c next.opens)

  pub turn-latest : IsLatest (set old v (Settled c)) c v
  turn-latest = settle-latest own_cost IsNoDearer next settles (λ d u. at_most_refl d) (search.is.ordered v c next.opens)

  pub turn-fits : IsOfArcs (settled_count old) c
  turn-fits = search.fits v c (label_open (mark old v) c next.opens)

  pub turn-count : settled_count (set old v (Settled c)) ≡ settled_count old + 1
  turn-count = count-settle old v c c next.opens

  -- v has its distance
  pub found-then : IsDistance g s v (Some c)
  found-then = (only-walk (search.is.walks v c (label_open (mark old v) c next.opens)), λ d walk. least_open_is_least own_cost any_downward search.is (by_costs g) v c next d (only-started walk) tt)

  -- and so has what is settled then
  pub settled-then : AreDistances g s (mark (set old v (Settled c)))
  settled-then u d is = elim (settle-settled own_cost IsNoDearer next settles u d is) [
    | inl this ↦ subst (λ n. IsDistance g s n (Some d)) (sym this.0) (subst (λ (e : Cost). IsDistance g s v (Some e)) this.1 found-then)
    | inr before ↦ settled_is_least g s (mark old) search.is u d before
  ]

  module _ (new : List (Mark Cost)) (opened : IsOpenedFrom g v c (set old v (Settled c)) new) where
    turn : IsTurn own_cost IsNoDearer (LeadsTo (ArcOf g) v c) v c (mark old) (mark new)
    turn = record { mid = mark mid; next = next; put = settles; opened = opened.is }

    turn-new_fits : IsGraph g → (u : ℕ) (d : Cost) → HasLabel (mark new u) d → IsOfArcs (settled_count new) d
    turn-new_fits graph u d has = subst (λ n. IsOfArcs n d) (sym (opened.count ∙ turn-count)) (elim (turn-label own_cost IsNoDearer (LeadsTo (ArcOf g) v c) turn u d has) [
      | inl there ↦ of_arcs_more {m = settled_count old} {n = settled_count old + 1} {a = d} (omega arith) (search.fits u d there)
      | inr leads ↦ subst (IsOfArcs (settled_count old + 1)) leads.sum (of_arcs_sum turn-fits (arc-fits graph leads.goes))
    ])

    turn-unsettled : (v ≡ t → ⊥) → (d : Cost) → mark new t ≡ Settled d → ⊥
    turn-unsettled other d is = elim (turn-settled own_cost IsNoDearer (LeadsTo (ArcOf g) v c) turn t d is) [
      | inl this ↦ other (sym this.0)
      | inr before ↦ search.unsettled d before
    ]

    pub search-turn : IsGraph g → (v ≡ t → ⊥) → IsFollowed g v c new → IsSearchTo g s t new
    search-turn graph other followed = record {
      nodes = opened.nodes ∙ (length-set old v (Settled c) ∙ search.nodes);
      is = searching.search-turn own_cost (by_costs g) search.is turn (λ u d leads. leads) followed;
      fits = turn-new_fits graph;
      unsettled = turn-unsettled other;
    }

-- The end

module _ {g : Graph} {s t : ℕ} {marks : List (Mark Cost)} (search : IsSearchTo g s t marks) where
  -- where no node is open, no walk leads to the target
  pub search-not_found : NoneOpen marks → IsDistance g s t None
  search-not_found none d walk = none_open-no_walk own_cost any_downward search.is none search.unsettled (only-started walk) tt
