-- The unfolded links of a least rise-fall walk: a least walk of the graph, with fewer arcs than there are nodes.
use Rattle.std.proofs.Common.{ℕ, suc, ◌≡◌, ◌-◌, ◌^◌, ◌<◌, ◌≤◌, List, [], ◌∷◌, length, map, Some, Contains, arith, sym, ap, subst, inl, inr}
use Rattle.std.proofs.lemmas.List.{length-map}
use Rattle.ch_cost.specs.declared.cost.Cost.{Cost}
use Rattle.ch_cost.specs.Cost.{◌⊕◌}
use Rattle.ch_cost.specs.Cost.Laws.{below_not_at_most, within_trans, more_arcs_within}
use Rattle.ch_graph.specs.declared.link.Link.{Link}
use Rattle.ch_graph.specs.Walk.{Walk, visited, Along}
use Rattle.ch_graph.specs.Graph.{Graph, ArcOf, IsDistance}
use Rattle.ch_graph.specs.Limits.{IsGraph}
use Rattle.ch_graph.specs.Hierarchy.{Hierarchy, Chain, Chain.nothing, IsRiseFall, Unfolds, UnfoldsAll, UnfoldsAll.done, UnfoldsAll.more, IsRight}
use Rattle.ch_graph.specs.Limits.Laws.{few_arcs_or_cheaper, bound-within}
use Rattle.ch_graph.specs.Hierarchy.Chains.{chain-same, chain-join, chain-along, chain-weaker, chain-view}
use Rattle.ch_laws.specs.Theorems.{BoundsFit, IsLeastRoute, NeverTooLong, RouteIsLeast}

-- the rise and the fall of a rise-fall walk as one chain
leads-chain : {h : Hierarchy} {links : List Link} {s t : ℕ} {c : Cost} → IsRiseFall h links s t c → Chain (λ l. Contains h.links l) links s t c
leads-chain {h} {links} {s} {t} {c} leads =
    let rise = chain-weaker (λ l kind. kind.among) leads.rises in
    let fall = chain-weaker (λ l kind. kind.among) leads.falls in
    chain-same (sym leads.sum) (subst (λ (ls : List Link). Chain (λ l. Contains h.links l) ls s t (leads.up ⊕ leads.down)) (sym leads.parts) (chain-join rise fall))

-- where each link unfolds to a chain of arcs of some kind, with its ends and cost, so do links that are joined
module _ {h : Hierarchy} {IsKind : Link → Type 0} (unfolded : (l : Link) (arcs : List Link) → Contains h.links l → Unfolds h l arcs → Chain IsKind arcs l.from l.to l.cost) where
  unfolded-all : {links arcs : List Link} → UnfoldsAll h links arcs → {s t : ℕ} {c : Cost} → Chain (λ l. Contains h.links l) links s t c → Chain IsKind arcs s t c
  unfolded-all done {s = s} {c = c} chain =
      let view = chain-view chain in
      subst (λ n. Chain IsKind [] s n c) view.0 (chain-same view.1 nothing)
  unfolded-all (more {l = l} {us = us} first others) chain =
      let view = chain-view chain in
      let front : Chain IsKind us l.from l.to l.cost = unfolded l us view.1 first in
      chain-same view.4 (chain-join (subst (λ n. Chain IsKind us n l.to l.cost) view.2 front) (unfolded-all others view.3))

  -- so a least route is a chain of such arcs
  pub route-chain : {s t : ℕ} {c : Cost} {links arcs : List Link} → IsLeastRoute h s t c links arcs → Chain IsKind arcs s t c
  route-chain route = unfolded-all route.unfolds (leads-chain route.leads)

module _ {g : Graph} {h : Hierarchy} (right : IsRight g h) where
  -- its cost is the distance
  pub route-distance : {s t : ℕ} {c : Cost} {links arcs : List Link} → s < g.nodes → t < g.nodes → IsLeastRoute h s t c links arcs → IsDistance g s t (Some c)
  route-distance {s} {t} {c} from_in to_in route = (right.value s t (Some c) from_in to_in).1 route.least

  -- and its nodes lie along a walk of the graph
  pub route-along : {s t : ℕ} {c : Cost} {links arcs : List Link} → IsLeastRoute h s t c links arcs → Along (ArcOf g) (s ∷ map (λ (l : Link). l.to) arcs) s t c
  route-along route = chain-along (λ l arc. arc) (route-chain right.unfolded route)

-- a least walk has fewer arcs than there are nodes
few_arcs : {g : Graph} → IsGraph g → {s t : ℕ} {c : Cost} → IsDistance g s t (Some c) → (w : Walk (ArcOf g) s t c) → length (visited w) ≤ g.nodes - 1
few_arcs {g} is distance w = elim (few_arcs_or_cheaper g is w) [
  | inl few ↦ few
  | inr less ↦ absurd (below_not_at_most less.below (distance.1 less.cost less.walk))
]

-- the law that a least route is short
pub never_too_long : NeverTooLong
never_too_long g h s t c links arcs is right from_in to_in route =
    let along = route-along right route in
    let few : length (visited along.0) ≤ g.nodes - 1 = few_arcs is (route-distance right from_in to_in route) along.0 in
    let same : suc (length (map (λ (l : Link). l.to) arcs)) ≡ suc (length (visited along.0)) = ap (λ (nodes : List ℕ). length nodes) along.1 in
    (route-chain right.unfolded route, omega (arith, few, same, length-map arcs (λ (l : Link). l.to)))

-- and the law that it is a least walk
pub route_is_least : RouteIsLeast
route_is_least g h s t c links arcs is right from_in to_in route = (route-along right route, route-distance right from_in to_in route)

-- the law of bounds
pub bounds_fit : BoundsFit
bounds_fit g is = within_trans (bound-within g is) (more_arcs_within (g.nodes - 1) (2 ^ 25 - 1) (2 ^ 32 - 1) (omega (arith, is.few_nodes)))
