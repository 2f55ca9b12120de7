-- Walks and chains turned round, and what is least over them.
use Rattle.std.proofs.Common.{ℕ, ◌≡◌, List, [], ◌∷◌, ◌++◌, Option, Some, None, refl, ap, sym, subst, ◌∙◌, append_assoc, append-nil, arith}
use Rattle.std.proofs.lemmas.List.{length-map}
use Rattle.std.proofs.lemmas.List.Elements.{All-map, All-weaker}
use Rattle.ch_cost.specs.declared.cost.Cost.{Cost}
use Rattle.ch_cost.specs.Cost.{of_weight}
use Rattle.ch_cost.specs.Cost.Laws.{sum_comm}
use Rattle.ch_graph.specs.declared.link.Link.{Link}
use Rattle.ch_graph.specs.declared.road.Road.{Road}
use Rattle.ch_graph.specs.Walk.{Walk, Walk.stay, Walk.go, IsLeastOrNone}
use Rattle.ch_graph.specs.Walk.Laws.{one_arc, join}
use Rattle.ch_graph.specs.Graph.{Graph, ArcOf, IsDistance, IsLeastLength}
use Rattle.ch_graph.specs.Limits.{IsRoad}
use Rattle.ch_graph.specs.Hierarchy.{Chain, Chain.nothing, Chain.then}
use Rattle.ch_graph.specs.Hierarchy.Chains.{chain-same, chain-join, one_link}
use Rattle.ch_laws.specs.Members.{contains-map, contains-mapped}
use Rattle.ch_turned.specs.Turned.{turned_road, turned_graph, turned_link}
use Rattle.ch_turned.specs.Laws.{TurnedIsGraph, WalksTurn}

-- an arc of the graph, turned, and of the turned graph
pub arc-turned : (g : Graph) (x y : ℕ) (c : Cost) → ArcOf g x y c → ArcOf (turned_graph g) y x c
arc-turned g x y c arc = record { road = turned_road arc.road; among = contains-map turned_road g.arcs arc.road arc.among; from = arc.to; to = arc.from; costs = arc.costs }

pub arc-back : (g : Graph) (x y : ℕ) (c : Cost) → ArcOf (turned_graph g) x y c → ArcOf g y x c
arc-back g x y c arc =
    let found = contains-mapped turned_road g.arcs arc.road arc.among in
    record {
      road = found.0;
      among = found.1;
      from = ap (λ (r : Road). r.to) found.2 ∙ arc.to;
      to = ap (λ (r : Road). r.from) found.2 ∙ arc.from;
      costs = ap (λ (r : Road). of_weight r.weight) found.2 ∙ arc.costs;
    }

-- a walk, where each arc is one of another kind in the other direction
walk-turned : {Arc Other : ℕ → ℕ → Cost → Type 0} → ((x y : ℕ) (c : Cost) → Arc x y c → Other y x c) → {x z : ℕ} {c : Cost} → Walk Arc x z c → Walk Other z x c
walk-turned each stay = stay
walk-turned {Other = Other} each (go {x = x} {y = y} {z = z} {c = c} {d = d} arc rest) = subst (λ (e : Cost). Walk Other z x e) (sum_comm d c) (join (walk-turned each rest) (one_arc (each x y c arc)))

pub walks_turn : WalksTurn
walks_turn g s t c = (walk-turned (arc-back g), walk-turned (arc-turned g))

pub turned_is_graph : TurnedIsGraph
turned_is_graph g graph = record {
  few_nodes = graph.few_nodes;
  few_arcs = omega (arith, length-map g.arcs turned_road, graph.few_arcs);
  roads = All-map (IsRoad g.nodes) turned_road g.arcs (All-weaker (IsRoad g.nodes) (λ r. IsRoad g.nodes (turned_road r)) (λ r is. record { from_in = is.to_in; to_in = is.from_in; weighs = is.weighs }) g.arcs graph.roads);
}

-- what has the same costs has the same least one
pub least-same : {P Q : Cost → Type 0} → ((c : Cost) → P c → Q c) → ((c : Cost) → Q c → P c) → (c : Option Cost) → IsLeastOrNone P c → IsLeastOrNone Q c
least-same to back None none = λ c is. none c (back c is)
least-same to back (Some c) least = (to c least.0, λ d is. least.1 d (back d is))

-- so has a distance in the turned graph
pub distance-turned : (g : Graph) (s t : ℕ) (c : Option Cost) → IsDistance g t s c → IsDistance (turned_graph g) s t c
distance-turned g s t = least-same (λ c. walk-turned (arc-turned g)) (λ c. walk-turned (arc-back g))

pub distance-back : (g : Graph) (s t : ℕ) (c : Option Cost) → IsDistance (turned_graph g) s t c → IsDistance g t s c
distance-back g s t = least-same (λ c. walk-turned (arc-back g)) (λ c. walk-turned (arc-turned g))

pub length-turned : (g : Graph) (s t : ℕ) (n : Option ℕ) → IsLeastLength g t s n → IsLeastLength (turned_graph g) s t n
length-turned g s t None none = λ c walk. none c (walk-turned (arc-back g) walk)
length-turned g s t (Some n) least = (least.0, walk-turned (arc-turned g) least.1, least.2, λ d walk. least.3 d (walk-turned (arc-back g) walk))

-- Links

-- a list of links backwards, each with its ends exchanged
abbrev pub flipped : List Link → List Link
flipped [] = []
flipped (l ∷ ls) = flipped ls ++ turned_link l ∷ []

pub flipped-join : (ls rs : List Link) → flipped (ls ++ rs) ≡ flipped rs ++ flipped ls
flipped-join [] rs = sym (append-nil (flipped rs))
flipped-join (l ∷ ls) rs = ap (λ (ks : List Link). ks ++ turned_link l ∷ []) (flipped-join ls rs) ∙ append_assoc (flipped rs) (flipped ls) (turned_link l ∷ [])

pub flipped-flipped : (ls : List Link) → flipped (flipped ls) ≡ ls
flipped-flipped [] = refl
flipped-flipped (l ∷ ls) = flipped-join (flipped ls) (turned_link l ∷ []) ∙ ap (λ (ks : List Link). l ∷ ks) (flipped-flipped ls)

-- a chain, where each link is one of another kind with its ends exchanged
pub chain-turned : {IsKind IsOther : Link → Type 0} → ((l : Link) → IsKind l → IsOther (turned_link l)) → {ls : List Link} {x z : ℕ} {c : Cost} → Chain IsKind ls x z c → Chain IsOther (flipped ls) z x c
chain-turned each nothing = nothing
chain-turned {IsOther = IsOther} each (then {l = l} {d = d} kind from rest) =
    chain-same (sum_comm d l.cost) (chain-join (chain-turned each rest) (subst (λ (n : ℕ). Chain IsOther (turned_link l ∷ []) l.to n l.cost) from (one_link (turned_link l) (each l kind))))
