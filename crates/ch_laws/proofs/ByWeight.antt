-- Routes by hierarchies that are right by weight: walks of the least length, and in version 1 with fewer arcs than nodes.
use Rattle.std.proofs.Common.{ℕ, ◌≡◌, ◌-◌, ◌<◌, ◌≤◌, List, [], ◌∷◌, length, map, Option, Some, None, option_map, All, Contains, arith, refl, sym, ap, subst, inl, inr}
use Rattle.std.proofs.lemmas.List.{length-map}
use Rattle.std.proofs.lemmas.List.Elements.{All-nil, All-cons, All-head, All-tail, All-append, All-contains, All-weaker}
use Rattle.ch_cost.specs.declared.cost.Cost.{Cost}
use Rattle.ch_cost.specs.Cost.{zero_cost, ◌⊕◌, length_of, arcs_of}
use Rattle.ch_cost.specs.Cost.Laws.{above-from_length, lengths-from_below, length_of-sum, length_of-at_most, arcs_of-zero_cost, arcs_of-sum}
use Rattle.ch_graph.specs.declared.link.Link.{Link}
use Rattle.ch_graph.specs.declared.version.Version.{Version}
use Rattle.ch_graph.specs.declared.version.Version.TheVariants.{One}
use Rattle.ch_graph.specs.Walk.{Walk, Walk.stay, Walk.go, visited, Along}
use Rattle.ch_graph.specs.Graph.{Graph, ArcOf, IsDistance, IsLeastLength}
use Rattle.ch_graph.specs.Limits.{IsGraph}
use Rattle.ch_graph.specs.Limits.Laws.{arc-sound}
use Rattle.ch_graph.specs.Walk.Laws.{short_or_cheaper}
use Rattle.ch_graph.specs.Hierarchy.{Hierarchy, Chain, Chain.nothing, Chain.then, Unfolds, Unfolds.whole, Unfolds.halves, Counts, CountsWeight, IsLinkWellMade, IsWellMade}
use Rattle.ch_graph.specs.Hierarchy.Chains.{chain-along, chain-weaker}
use Rattle.ch_laws.specs.Theorems.{IsLeastRoute}
use Rattle.ch_laws.specs.ByWeight.{IsArcByWeight, IsRightByWeight, RightIsRightByWeight, RouteIsShortest, NeverTooLongByWeight}
use Rattle.ch_laws.proofs.LeastRoutes.{route-chain}

-- Right hierarchies

-- a distance has the least length
least-length : (g : Graph) (s t : ℕ) (c : Option Cost) → IsDistance g s t c → IsLeastLength g s t (option_map length_of c)
least-length g s t None none = none
least-length g s t (Some c) is = (c, is.0, refl, λ d w. length_of-at_most (is.1 d w))

-- so a hierarchy that is right is right by weight
pub right_is_right_by_weight : RightIsRightByWeight
right_is_right_by_weight g h right = record {
  nodes = right.nodes;
  value = λ s t c from_in to_in value. least-length g s t c ((right.value s t c from_in to_in).1 value);
  unfolds = right.unfolds;
  unfolded = λ l arcs among unfolds. chain-weaker (λ k arc. record { cost = k.cost; arc = arc; weighs = refl }) (right.unfolded l arcs among unfolds);
}

-- Walks by weight

-- an arc of the graph that is as long as the cost c
record Weighs (g : Graph) (x y : ℕ) (c : Cost) : Type 0 where
  cost : Cost
  arc : ArcOf g x y cost
  weighs : length_of cost ≡ length_of c

-- a walk of the graph along these nodes, of this length
record HasAlong (g : Graph) (nodes : List ℕ) (x z n : ℕ) : Type 0 where
  cost : Cost
  along : Along (ArcOf g) nodes x z cost
  long : length_of cost ≡ n

-- a walk of arcs by weight goes along a walk of the graph of the same length
weighed : {g : Graph} {Arc : ℕ → ℕ → Cost → Type 0} → ((x y : ℕ) (c : Cost) → Arc x y c → Weighs g x y c) → {x z : ℕ} {c : Cost} (w : Walk Arc x z c) → HasAlong g (x ∷ visited w) x z (length_of c)
weighed each (stay {x}) = record { cost = zero_cost; along = (stay, refl); long = refl }
weighed each (go {x = x} {y = y} {c = c} {d = d} arc rest) =
    let first = each x y c arc in
    let more = weighed each rest in
    record {
      cost = first.cost ⊕ more.cost;
      along = (go first.arc more.along.0, ap (λ (nodes : List ℕ). x ∷ nodes) more.along.1);
      long = omega (arith, length_of-sum first.cost more.cost, length_of-sum c d, first.weighs, more.long);
    }

-- an arc by weight, between the ends of a link
link-weighs : {g : Graph} (l : Link) → IsArcByWeight g l → Weighs g l.from l.to l.cost
link-weighs l arc = record { cost = arc.cost; arc = arc.arc; weighs = arc.weighs }

module _ {g : Graph} {h : Hierarchy} (right : IsRightByWeight g h) where
  -- a least route has the least length
  route-length : {s t : ℕ} {c : Cost} {links arcs : List Link} → s < g.nodes → t < g.nodes → IsLeastRoute h s t c links arcs → IsLeastLength g s t (Some (length_of c))
  route-length {s} {t} {c} from_in to_in route = right.value s t (Some c) from_in to_in route.least

  -- and a walk of that length goes along its nodes
  route-weighed : {s t : ℕ} {c : Cost} {links arcs : List Link} → IsLeastRoute h s t c links arcs → HasAlong g (s ∷ map (λ (l : Link). l.to) arcs) s t (length_of c)
  route-weighed {s} {t} {c} route =
      let along = chain-along link-weighs (route-chain right.unfolded route) in
      subst (λ (nodes : List ℕ). HasAlong g nodes s t (length_of c)) (sym along.1) (weighed (λ x y d arc. arc) along.0)

-- the law that it is a walk of the least length
pub route_is_shortest : RouteIsShortest
route_is_shortest g h s t c links arcs right from_in to_in route =
    let weighed = route-weighed right route in
    (route-length right from_in to_in route, (weighed.cost, weighed.along, weighed.long))

-- Version 1

-- an arc by weight of a cost that weighs something and counts no arcs
record WeighsSome (g : Graph) (x y : ℕ) (c : Cost) : Type 0 where
  weighs : Weighs g x y c
  some : 0 < length_of c
  none : arcs_of c ≡ 0

-- a walk of such arcs counts none
counts-none : {g : Graph} {x z : ℕ} {c : Cost} → Walk (WeighsSome g) x z c → arcs_of c ≡ 0
counts-none stay = arcs_of-zero_cost
counts-none (go {c = c} {d = d} arc rest) = omega (arith, arcs_of-sum c d, arc.none, counts-none rest)

-- so a cheaper one is shorter, and a walk of the least length has fewer arcs than there are nodes
few-by-weight : {g : Graph} → IsGraph g → {s t : ℕ} {c : Cost} → s < g.nodes → IsLeastLength g s t (Some (length_of c)) → (w : Walk (WeighsSome g) s t c) → length (visited w) ≤ g.nodes - 1
few-by-weight {g} is {c = c} from_in least w = elim (short_or_cheaper g.nodes (λ x y d arc. (above-from_length d arc.some, (arc-sound g is x y arc.weighs.cost arc.weighs.arc).to_in)) w from_in) [
  | inl few ↦ omega (arith, few)
  | inr less ↦
      let shorter : length_of less.cost < length_of c = lengths-from_below less.cost c less.below (omega (arith, counts-none w)) in
      let other = weighed (λ x y d arc. arc.weighs) less.walk in
      let not_shorter : length_of c ≤ length_of other.cost = least.3 other.cost other.along.0 in
      let long : length_of other.cost ≡ length_of less.cost = other.long in
      absurd (omega (arith, shorter, not_shorter, long))
]

-- the links that a link unfolds to are of the same hierarchy
unfolded-among : {h : Hierarchy} {l : Link} {arcs : List Link} → Contains h.links l → Unfolds h l arcs → All (Contains h.links) arcs
unfolded-among {h} among (whole {l = l} none) = All-cons (Contains h.links) l [] among (All-nil (Contains h.links))
unfolded-among {h} among (halves {ls = ls} {rs = rs} some first second before after) =
    All-append (Contains h.links) ls rs (unfolded-among first.among before) (unfolded-among second.among after)

-- a chain of links of a kind that are of another too is a chain of both
chain-both : {IsKind IsOther : Link → Type 0} {ls : List Link} {x z : ℕ} {c : Cost} → Chain IsKind ls x z c → All IsOther ls → Chain (λ l. IsKind l × IsOther l) ls x z c
chain-both nothing others = nothing
chain-both {IsOther = IsOther} (then {l = l} {ls = ls} kind from rest) others = then (kind, All-head IsOther l ls others) from (chain-both rest (All-tail IsOther l ls others))

-- in a hierarchy of version 1 each link weighs something and counts no arcs
link-counts : {h : Hierarchy} → h.version ≡ One → IsWellMade h → (l : Link) → Contains h.links l → CountsWeight l
link-counts {h} one made l among = subst (λ (v : Version). Counts v l) one (All-contains (IsLinkWellMade h) h.links l made.links among).counts

-- the law that a route by it has fewer arcs than there are nodes
pub never_too_long_by_weight : NeverTooLongByWeight
never_too_long_by_weight g h s t c links arcs is right one made from_in to_in route =
    let chain : Chain (λ l. IsArcByWeight g l × CountsWeight l) arcs s t c = route-chain (λ l us among unfolds. chain-both (right.unfolded l us among unfolds) (All-weaker (Contains h.links) CountsWeight (link-counts one made) us (unfolded-among among unfolds))) route in
    let along = chain-along {Arc = WeighsSome g} (λ l both. record { weighs = link-weighs l both.0; some = both.1.some; none = both.1.none }) chain in
    let few : length (visited along.0) ≤ g.nodes - 1 = few-by-weight is from_in (route-length right from_in to_in route) along.0 in
    let same : length (s ∷ map (λ (l : Link). l.to) arcs) ≡ length (s ∷ visited along.0) = ap (λ (nodes : List ℕ). length nodes) along.1 in
    omega (arith, few, same, length-map arcs (λ (l : Link). l.to))
