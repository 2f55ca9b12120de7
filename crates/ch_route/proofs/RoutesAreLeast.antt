use Rattle.std.proofs.Common.{ℕ, ◌≡◌, ◌+◌, ◌-◌, ◌<◌, ◌≤◌, ◌^◌, true, false, ltb, List, length, Contains, Option, Some, None, option_map, slice_get, refl, sym, ap, subst, inl, inr, arith, suc, Result, Err, slice_index_or, IfSome, Ok, IsErrAnd, [], ◌∷◌, All, ◌∙◌}
use Rattle.std.proofs.lemmas.Bool.{cases_lt, ltb-false, ltb-true}
use Rattle.std.proofs.lemmas.List.Elements.{All-contains}
use Rattle.std.proofs.lemmas.Option.{slice_get_within, get_or_from_slice_get}
use Rattle.ch_cost.specs.declared.cost.Cost.{Cost}
use Rattle.ch_cost.specs.Cost.{◌⊕◌, ◌≺◌, ◌≼◌, length_of, zero_cost, cost_of_arcs, of_walk, arcs_of}
use Rattle.ch_cost.specs.Cost.Laws.{at_most_refl, cases_cost, below-from_lengths, at_most-from_below, below_not_at_most, sum_below_left, sum_below_right, length_of-at_most, length_of-sum, cost-induction, arcs_of-at_most}
use Rattle.ch_cost.specs.Cost.Numbers.{length_of-cost_of_arcs, length_of-of_walk, lengths-from_no_longer, lengths-from_within, no_longer-from_lengths}
use Rattle.ch_graph.specs.declared.link.Link.{Link}
use Rattle.ch_graph.specs.Walk.{Walk, Walk.stay, IsLeastOrNone, visited, Along}
use Rattle.ch_graph.specs.Walk.Laws.{one_arc, join}
use Rattle.ch_graph.specs.Graph.{Graph, ArcOf, IsLeastLength, IsShortest}
use Rattle.ch_graph.specs.Hierarchy.{Hierarchy, Chain, Chain.nothing, Chain.then, HasRiseFall, IsRiseFall, IsRight, IsValue, IsWellMade}
use Rattle.ch_laws.specs.ByWeight.{IsArcByWeight, IsRightByWeight, RightIsRightByWeight, RouteIsShortest, NeverTooLongByWeight}
use Rattle.ch_query.specs.declared.seed.Seed.{Seed}
use Rattle.ch_query.specs.Seeds.{IsSeed, AreSeeds, HasWalkBetween, HasPair, IsValueBetween, IsDistanceBetween, cost_between, longest, IsLeastWalkBetween, IsWalkBetween}
use Rattle.ch_route.specs.Between.{RouteBetween, HasTooLongBetween, IsLeastLengthBetween, IsLeastLengthWithin, IsRouteBetweenBy, IsShortestBetween, IsUnfoldedBetween, LeadsBetween, IsUnfoldedWay, IsRowLengthFrom, IsRowLengthWithin}
use Rattle.ch_route.specs.Laws.{LengthsBetweenAreLeast, LengthsWithinAreLeast, NoneTooLong, NoneTooLongBetween, NoneTooLongBetweenByWeight, NoneTooLongByWeight, RoutesAreFewest, RoutesAreLeastByWeight, RoutesBetweenAreFewest, RoutesBetweenAreLeast, RoutesBetweenAreLeastByWeight, LengthsAreLeast, LengthsAreLeastByWeight}
use Rattle.ch_route.specs.Routes.{Route, HasTooLong, IsFewestWalk, IsLeastWalk, IsUnfoldedRoute, IsLengthBy, IsRowLength, or_none}
use Rattle.ch_query.specs.declared.search.Found.{Found}
use Rattle.ch_graph.specs.Limits.Laws.{walk-arcs}
use Rattle.ch_graph.specs.Limits.{IsGraph}
use Rattle.ch_graph.specs.declared.version.Version.TheVariants.{One}
use Rattle.ch_laws.specs.Theorems.{RouteIsLeast, NeverTooLong}
use Rattle.ch_unpack.specs.declared.error.UnpackError.{UnpackError}
use Rattle.ch_unpack.specs.declared.error.UnpackError.TheVariants.{TooLong}
use Rattle.ch_graph.specs.declared.hierarchy.LinkId.{LinkId}
use Rattle.ch_graph.specs.Unfolding.{PlacesNameLinks}
use Rattle.ch_query.specs.declared.search.FoundBetween.{FoundBetween}
use Rattle.ch_unpack.specs.Unpacking.{Unfolded, IsUnpacked, IsTooLong}
use Rattle.ch_query.specs.Seeds.Laws.{seed-node, seeds-none, seeds-cons}
use Rattle.ch_query.specs.Ways.{free, LongestIsExact}
use Rattle.ch_table.specs.Lengths.{IsLengthFrom, IsLengthFromAny, IsRow, length_or_none, AreFirstRows, AreRows}
use Rattle.ch_table.specs.Lengths.Laws.{row-weaker, rows-weaker}

-- The least over all pairs of a start and an end: by a hierarchy that is right by weight, and by a right one.
-- Some cost is the least of its kind, or there is none: it can't be that neither is so

none_below : (P : Cost → Type 0) → ((v : Option Cost) → IsLeastOrNone P v → ⊥) → (c : Cost) → P c → ⊥
none_below P never = cost-induction (λ (c : Cost). P c → ⊥) (λ c less is. never (Some c) (
  is,
  λ d other. elim (cases_cost d c) [
    | inl below ↦ absurd (less d below other)
    | inr most ↦ most
  ],
))

some_least : (P : Cost → Type 0) → ((v : Option Cost) → IsLeastOrNone P v → ⊥) → ⊥
some_least P never = never None (none_below P never)

not_above : (a b : ℕ) → (b < a → ⊥) → a ≤ b
not_above a b never = elim (ltb b a) as (λ u. ltb b a ≡ u → a ≤ b) [
  | true ↦ λ less. absurd (never (ltb-true b a less))
  | false ↦ λ more. let above = ltb-false b a more in omega (arith, above)
] refl

-- Walks by length

-- some walk of the graph is so long
record HasLength (g : Graph) (x z n : ℕ) : Type 0 where
  cost : Cost
  walk : Walk (ArcOf g) x z cost
  long : length_of cost ≡ n

-- one behind the other
joined : {g : Graph} {x y z m n : ℕ} → HasLength g x y m → HasLength g y z n → HasLength g x z (m + n)
joined a b = record { cost = a.cost ⊕ b.cost; walk = join a.walk b.walk; long = omega (arith, length_of-sum a.cost b.cost, a.long, b.long) }

-- a chain of links of which each represents a walk of its length
chain-long : {g : Graph} {IsKind : Link → Type 0} → ((l : Link) → IsKind l → HasLength g l.from l.to (length_of l.cost)) → {ls : List Link} {x z : ℕ} {c : Cost} → Chain IsKind ls x z c → HasLength g x z (length_of c)
chain-long each nothing = record { cost = zero_cost; walk = stay; long = refl }
chain-long {g} each (then {l = l} {z = z} {d = d} kind from rest) =
    let all = joined (each l kind) (chain-long each rest) in
    record { cost = all.cost; walk = subst (λ n. Walk (ArcOf g) n z all.cost) from all.walk; long = omega (arith, all.long, length_of-sum l.cost d) }

arc-long : {g : Graph} (l : Link) → IsArcByWeight g l → HasLength g l.from l.to (length_of l.cost)
arc-long l arc = record { cost = arc.cost; walk = one_arc arc.arc; long = arc.weighs }

-- Seeds in their lists

among : (seeds : List Seed) (k : ℕ) (seed : Seed) → slice_get seeds k ≡ Some seed → Contains seeds seed
among seeds k seed is = (k, slice_get_within seeds k seed is, get_or_from_slice_get seeds k seed seed is)

-- with a cheaper way between them a start and an end cost less
between_below : (start stop : Seed) {a b : Cost} → a ≺ b → cost_between start a stop ≺ cost_between start b stop
between_below start stop below = sum_below_left (sum_below_right (at_most_refl start.cost) below) (at_most_refl stop.cost)

length_between : (start stop : Seed) (way : Cost) → length_of (cost_between start way stop) ≡ length_of start.cost + length_of way + length_of stop.cost
length_between start stop way = omega (arith, length_of-sum (start.cost ⊕ way) stop.cost, length_of-sum start.cost way)

-- a walk of one bound is one of any other that isn't shorter than it
walk_between-within : {h : Hierarchy} {starts ends : List Seed} {bound c : Cost} (other : Cost) → length_of c ≤ length_of other → HasWalkBetween h starts ends bound c → HasWalkBetween h starts ends other c
walk_between-within {c = c} other short walk = record {
  start = walk.start;
  stop = walk.stop;
  begins = walk.begins;
  stops = walk.stops;
  links = walk.links;
  way = walk.way;
  leads = walk.leads;
  sum = walk.sum;
  short = no_longer-from_lengths c other short;
}

module _ (g : Graph) (h : Hierarchy) (right : IsRightByWeight g h) where
  link-long : (l : Link) → Contains h.links l → HasLength g l.from l.to (length_of l.cost)
  link-long l within =
      let arcs = right.unfolds l within in
      chain-long arc-long (right.unfolded l arcs.0 within arcs.1)

  -- a rise-fall walk, of any length, represents a walk of the graph
  graph-long : {links : List Link} {s t : ℕ} {c : Cost} → IsRiseFall h links s t c → HasLength g s t (length_of c)
  graph-long {c = c} leads =
      let up = chain-long (λ l kind. link-long l kind.among) leads.rises in
      let down = chain-long (λ l kind. link-long l kind.among) leads.falls in
      let all = joined up down in
      let sum : length_of c ≡ length_of (leads.up ⊕ leads.down) = ap length_of leads.sum in
      record { cost = all.cost; walk = all.walk; long = omega (arith, all.long, sum, length_of-sum leads.up leads.down) }

  module _ (made : IsWellMade h) (starts ends : List Seed) (begins : AreSeeds h starts) (stops : AreSeeds h ends) where
    start-is : (seed : Seed) → Contains starts seed → IsSeed h seed
    start-is seed within = All-contains (IsSeed h) starts seed begins within

    stop-is : (seed : Seed) → Contains ends seed → IsSeed h seed
    stop-is seed within = All-contains (IsSeed h) ends seed stops within

    start-in : (seed : Seed) → Contains starts seed → seed.node < g.nodes
    start-in seed within = subst (λ n. seed.node < n) right.nodes (start-is seed within).node_in

    stop-in : (seed : Seed) → Contains ends seed → seed.node < g.nodes
    stop-in seed within = subst (λ n. seed.node < n) right.nodes (stop-is seed within).node_in

    -- what a walk within the bound costs with two seeds is never cut off
    walk-between : (start stop : Seed) → Contains starts start → Contains ends stop → (e : Cost) → HasRiseFall h start.node stop.node e → HasWalkBetween h starts ends longest (cost_between start e stop)
    walk-between start stop first last e way =
        let nodes = length h.ranks in
        let from = start-is start first in
        let to = stop-is stop last in
        let few = made.few_nodes in
        let before = from.length in
        let after = to.length in
        let short = lengths-from_no_longer e h.bound way.short in
        let within = lengths-from_within h.bound (cost_of_arcs (nodes - 1) (2 ^ 32 - 1)) made.bound in
        let most = length_of-cost_of_arcs (nodes - 1) (2 ^ 32 - 1) in
        record {
          start = start;
          stop = stop;
          begins = first;
          stops = last;
          links = way.links;
          way = e;
          leads = way.leads;
          sum = refl;
          short = no_longer-from_lengths (cost_between start e stop) longest (omega (arith, before, after, few, short, within, most, length_between start stop e, length_of-of_walk (2 ^ 62) 0));
        }

    -- a pair with a walk can't be beaten, where no way by the hierarchy beats it
    no_pair : (start stop : Seed) → Contains starts start → Contains ends stop → (d : Cost) → Walk (ArcOf g) start.node stop.node d
        → ((e : Cost) → HasWalkBetween h starts ends longest (cost_between start e stop) → length_of e ≤ length_of d → ⊥) → ⊥
    no_pair start stop first last d walk never = some_least (HasRiseFall h start.node stop.node) no_value
      where
        no_value : (v : Option Cost) → IsValue h start.node stop.node v → ⊥
        no_value None value = right.value start.node stop.node None (start-in start first) (stop-in stop last) value d walk
        no_value (Some e) value = never e (walk-between start stop first last e value.0) ((right.value start.node stop.node (Some e) (start-in start first) (stop-in stop last) value).3 d walk)

    module _ (c : Cost) (least : IsValueBetween h starts ends longest (Some c)) (start stop : Seed) (first : Contains starts start) (last : Contains ends stop) (way : Cost) (sum : c ≡ cost_between start way stop) where
      -- no way between the two that were taken is cheaper
      no_cheaper : (e : Cost) → HasRiseFall h start.node stop.node e → way ≼ e
      no_cheaper e other = elim (cases_cost e way) [
        | inl below ↦
            let lesser : cost_between start e stop ≺ c = subst (λ (d : Cost). cost_between start e stop ≺ d) (sym sum) (between_below start stop below) in
            absurd (below_not_at_most lesser (least.1 (cost_between start e stop) (walk-between start stop first last e other)))
        | inr most ↦ most
      ]

      -- so theirs is the value of the hierarchy
      own_value : {links : List Link} → IsRiseFall h links start.node stop.node way → IsValue h start.node stop.node (Some way)
      own_value {links} leads = (record { links = links; leads = leads; short = no_longer-from_lengths way h.bound (not_above (length_of way) (length_of h.bound) never) }, no_cheaper)
        where
          never : length_of h.bound < length_of way → ⊥
          never long = some_least (HasRiseFall h start.node stop.node) no_value
            where
              no_value : (v : Option Cost) → IsValue h start.node stop.node v → ⊥
              no_value None value =
                  let walk = graph-long leads in
                  right.value start.node stop.node None (start-in start first) (stop-in stop last) value walk.cost walk.walk
              no_value (Some e) value =
                  let most = length_of-at_most (no_cheaper e value.0) in
                  let short = lengths-from_no_longer e h.bound value.0.short in
                  absurd (omega (arith, long, most, short))

    -- the least length over all pairs
    pub least_length : (v : Option Cost) → IsValueBetween h starts ends longest v → IsLeastLengthBetween g starts ends (option_map length_of v)
    least_length None none = λ n pair. no_pair pair.start pair.stop pair.begins pair.stops pair.way pair.walk (λ e between _. none (cost_between pair.start e pair.stop) between)
    least_length (Some c) least = (
      record { start = own.start; stop = own.stop; begins = own.begins; stops = own.stops; way = long.0; walk = long.1; sum = omega (arith, same, length_between own.start own.stop own.way, long.2) },
      λ n pair. not_above (length_of c) n (λ less. no_pair pair.start pair.stop pair.begins pair.stops pair.way pair.walk (λ e between no_longer.
          let most = length_of-at_most (least.1 (cost_between pair.start e pair.stop) between) in
          let is = pair.sum in
          absurd (omega (arith, less, no_longer, most, is, length_between pair.start pair.stop e)))),
    )
      where
        own : HasWalkBetween h starts ends longest c
        own = least.0

        long : IsLeastLength g own.start.node own.stop.node (Some (length_of own.way))
        long = right.value own.start.node own.stop.node (Some own.way) (start-in own.start own.begins) (stop-in own.stop own.stops) (own_value c least own.start own.stop own.begins own.stops own.way own.sum own.leads)

        same : length_of c ≡ length_of (cost_between own.start own.way own.stop)
        same = ap length_of own.sum

    -- and within a limit: what costs more than the least within it is either within it too, or longer
    pub least_within : (limit : ℕ) → limit ≤ 2 ^ 62 → (v : Option Cost) → IsValueBetween h starts ends (of_walk limit 0) v → IsLeastLengthWithin g starts ends limit (option_map length_of v)
    least_within limit most None none = λ n pair. elim (cases_lt limit n) [
      | inl above ↦ above
      | inr low ↦ absurd (no_pair pair.start pair.stop pair.begins pair.stops pair.way pair.walk (λ e between no_longer.
          let sum = pair.sum in
          none (cost_between pair.start e pair.stop) (walk_between-within (of_walk limit 0) (omega (arith, low, sum, no_longer, length_between pair.start pair.stop e, length_of-of_walk limit 0)) between)))
    ]
    least_within limit most (Some c) least =
        let no_longer = lengths-from_no_longer c (of_walk limit 0) least.0.short in
        let within : length_of c ≤ limit = omega (arith, no_longer, length_of-of_walk limit 0) in (
          least_length (Some c) (
            walk_between-within longest (omega (arith, within, most, length_of-of_walk (2 ^ 62) 0)) least.0,
            λ d other. elim (cases_lt limit (length_of d)) [
              | inl far ↦ at_most-from_below (below-from_lengths c d (omega (arith, within, far)))
              | inr near ↦ least.1 d (walk_between-within (of_walk limit 0) (omega (arith, near, length_of-of_walk limit 0)) other)
            ],
          ),
          within,
        )

    -- the nodes that were found are those of a route by the hierarchy between the two that were taken
    route_of : (r : RouteBetween) → IsValueBetween h starts ends longest (Some r.cost) → (found : IsUnfoldedBetween h starts ends r) → IsUnfoldedRoute h found.start.node found.stop.node (record { cost = found.way.way; nodes = r.nodes })
    route_of r least found =
        let first = among starts r.start found.start found.begins in
        let last = among ends r.end found.stop found.stops in
        record {
          links = found.way.links;
          arcs = found.arcs;
          least = record { leads = found.way.leads; least = own_value r.cost least found.start found.stop first last found.way.way found.way.sum found.way.leads; unfolds = found.way.unfolds };
          few = found.few;
          along = found.along;
        }

    -- of the kind that routes by it are
    leads_by : (Is : ℕ → ℕ → Option Route → Type 0) → ((s t : ℕ) (r : Route) → s < g.nodes → t < g.nodes → IsUnfoldedRoute h s t r → Is s t (Some r)) → (r : RouteBetween) → IsValueBetween h starts ends longest (Some r.cost) → IsUnfoldedBetween h starts ends r → LeadsBetween Is starts ends r
    leads_by Is law r least found = record {
      start = found.start;
      stop = found.stop;
      begins = found.begins;
      stops = found.stops;
      way = found.way.way;
      leads =
          law found.start.node found.stop.node (record { cost = found.way.way; nodes = r.nodes }) (start-in found.start (among starts r.start found.start found.begins)) (stop-in found.stop (among ends r.end found.stop found.stops))
          (route_of r least found);
      sum = found.way.sum;
    }

    -- and one that is too long is too long between these two
    too_long : (found : HasTooLongBetween h starts ends) → HasTooLong h found.start.node found.stop.node
    too_long found = record {
      cost = found.way.way;
      links = found.way.links;
      arcs = found.arcs;
      least = record { leads = found.way.leads; least = own_value found.cost found.least found.start found.stop found.begins found.stops found.way.way found.way.sum found.way.leads; unfolds = found.way.unfolds };
      many = found.many;
    }

    -- a shortest one, of that kind
    shortest_by : (IsRoute : Graph → ℕ → ℕ → Option Route → Type 0) → ((s t : ℕ) (r : Route) → s < g.nodes → t < g.nodes → IsUnfoldedRoute h s t r → IsRoute g s t (Some r)) → (r : Option RouteBetween) → IsRouteBetweenBy h starts ends r → IsShortestBetween IsRoute g starts ends r
    shortest_by IsRoute law None none = least_length None none
    shortest_by IsRoute law (Some r) found = (least_length (Some r.cost) found.0, leads_by (IsRoute g) law r found.0 found.1)

-- By a right hierarchy: the least cost

module _ (law : RightIsRightByWeight) (g : Graph) (h : Hierarchy) (right : IsRight g h) (made : IsWellMade h) (starts ends : List Seed) (begins : AreSeeds h starts) (stops : AreSeeds h ends) where
  abbrev weighs : IsRightByWeight g h
  weighs = law g h right

  -- a pair that has a distance has a walk of that cost
  pair-walk : {c : Cost} → HasPair g starts ends c → HasWalkBetween h starts ends longest c
  pair-walk pair =
      let value = (right.value pair.start.node pair.stop.node (Some pair.way) (start-in g h weighs made starts ends begins stops pair.start pair.begins) (stop-in g h weighs made starts ends begins stops pair.stop pair.stops)).0 pair.distance in
      subst (HasWalkBetween h starts ends longest) (sym pair.sum) (walk-between g h weighs made starts ends begins stops pair.start pair.stop pair.begins pair.stops pair.way value.0)

  least_cost : (v : Option Cost) → IsValueBetween h starts ends longest v → IsDistanceBetween g starts ends v
  least_cost None none = λ c pair. none c (pair-walk pair)
  least_cost (Some c) least = (
    record {
      start = own.start;
      stop = own.stop;
      begins = own.begins;
      stops = own.stops;
      way = own.way;
      distance =
          (right.value own.start.node own.stop.node (Some own.way) (start-in g h weighs made starts ends begins stops own.start own.begins) (stop-in g h weighs made starts ends begins stops own.stop own.stops)).1
          (own_value g h weighs made starts ends begins stops c least own.start own.stop own.begins own.stops own.way own.sum own.leads);
      sum = own.sum;
    },
    λ d pair. least.1 d (pair-walk pair),
  )
    where
      own : HasWalkBetween h starts ends longest c
      own = least.0

-- The laws

pub lengths-between : LengthsBetweenAreLeast
lengths-between g h starts ends v right made begins stops value = least_length g h right made starts ends begins stops v value

pub lengths-within : LengthsWithinAreLeast
lengths-within g h starts ends limit v right made begins stops most value = least_within g h right made starts ends begins stops limit most v value

pub routes-between-least : RightIsRightByWeight → RoutesAreFewest → RoutesBetweenAreLeast
routes-between-least weight law g h starts ends None graph right made begins stops none = least_cost weight g h right made starts ends begins stops None none
routes-between-least weight law g h starts ends (Some r) graph right made begins stops found = (
  least_cost weight g h right made starts ends begins stops (Some r.cost) found.0,
  leads_by g h (weight g h right) made starts ends begins stops (IsFewestWalk g) (λ s t route source target is. law g h s t (Some route) graph right source target is) r found.0 found.1,
)

pub routes-between-fewest : RightIsRightByWeight → RoutesAreFewest → RoutesBetweenAreFewest
routes-between-fewest weight law g h starts ends r graph right made begins stops found =
    shortest_by g h (weight g h right) made starts ends begins stops IsFewestWalk (λ s t route source target is. law g h s t (Some route) graph right source target is) r found

pub routes-between-by_weight : RoutesAreLeastByWeight → RoutesBetweenAreLeastByWeight
routes-between-by_weight law g h starts ends r right made begins stops found =
    shortest_by g h right made starts ends begins stops IsLeastWalk (λ s t route source target is. law g h s t (Some route) right source target is) r found

pub none-too_long-between : RightIsRightByWeight → NoneTooLong → NoneTooLongBetween
none-too_long-between weight law g h starts ends graph right made begins stops found =
    let by = weight g h right in
    law g h found.start.node found.stop.node graph right (start-in g h by made starts ends begins stops found.start found.begins) (stop-in g h by made starts ends begins stops found.stop found.stops)
    (too_long g h by made starts ends begins stops found)

pub none-too_long-between-by_weight : NoneTooLongByWeight → NoneTooLongBetweenByWeight
none-too_long-between-by_weight law g h starts ends graph right one made begins stops found =
    law g h found.start.node found.stop.node graph right one made (start-in g h right made starts ends begins stops found.start found.begins) (stop-in g h right made starts ends begins stops found.stop found.stops)
    (too_long g h right made starts ends begins stops found)

-- What a search of a hierarchy found.
pub found-none : (k h : Hierarchy) (s t : ℕ) (o : Option Found) → k ≡ h → o ≡ None → IsValue k s t (option_map (λ (g : Found). g.cost) o) → IsValue h s t None
found-none k h s t o same is value =
    subst (λ (m : Hierarchy). IsValue m s t None) same (subst (λ (p : Option Found). IsValue k s t (option_map (λ (g : Found). g.cost) p)) is value)

-- Why routes of a hierarchy that is right for a graph are least walks of it, in either version.
-- it is a least walk with the fewest arcs, since its cost is the distance, which counts arcs
pub routes-fewest : RouteIsLeast → RoutesAreFewest
routes-fewest law g h s t None graph right source target none = (right.value s t None source target).1 none
routes-fewest law g h s t (Some r) graph right source target found =
    let least = law g h s t r.cost found.links found.arcs graph right source target found.least in
    let along : Along (ArcOf g) r.nodes s t r.cost = subst (λ (ns : List ℕ). Along (ArcOf g) ns s t r.cost) (sym found.along) least.0 in
    let no_shorter : (d : Cost) → Walk (ArcOf g) s t d → length_of r.cost ≤ length_of d = λ d w. length_of-at_most (least.1.1 d w) in
    let count : length r.nodes ≡ suc (length (visited along.0)) = ap (λ (ns : List ℕ). length ns) along.1 in (
      ((r.cost, along.0, refl, no_shorter), (r.cost, along, refl)),
      λ d w same.
          let no_fewer : arcs_of r.cost ≤ arcs_of d = arcs_of-at_most (least.1.1 d w) (sym same) in
          omega (arith, no_fewer, walk-arcs g w, walk-arcs g along.0, count),
    )

-- by weight it is a least walk
pub routes-least : RouteIsShortest → RoutesAreLeastByWeight
routes-least law g h s t None right source target none = right.value s t None source target none
routes-least law g h s t (Some r) right source target found =
    subst (λ (ns : List ℕ). IsShortest g ns s t r.cost) (sym found.along) (law g h s t r.cost found.links found.arcs right source target found.least)

-- and the value has the least length
pub lengths-least-by_weight : LengthsAreLeastByWeight
lengths-least-by_weight g h s t n right source target found =
    subst (λ (m : Option ℕ). IsLeastLength g s t m) (sym found.long) (right.value s t found.value source target found.least)

pub lengths-least : RightIsRightByWeight → LengthsAreLeast
lengths-least law g h s t n right source target found = lengths-least-by_weight g h s t n (law g h right) source target found

-- it has fewer arcs than there are nodes, so it isn't too long

pub none-too_long : NeverTooLong → NoneTooLong
none-too_long law g h s t graph right source target long =
    let few : length long.arcs ≤ g.nodes - 1 = (law g h s t long.cost long.links long.arcs graph right source target long.least).1 in
    omega (arith, few, long.many, right.nodes)

pub none-too_long-by_weight : NeverTooLongByWeight → NoneTooLongByWeight
none-too_long-by_weight law g h s t graph right one made source target long =
    let few : length long.arcs ≤ g.nodes - 1 = law g h s t long.cost long.links long.arcs graph right one made source target long.least in
    omega (arith, few, long.many, right.nodes)

-- what a router refused
pub never_long : {T : Type 0} (h : Hierarchy) (s t : ℕ) (r : Result T UnpackError) → NoneTooLongByWeight → IsWellMade h → s < length h.ranks → t < length h.ranks → (r ≡ Err TooLong → HasTooLong h s t)
    → r ≡ Err TooLong → h.version ≡ One → (g : Graph) → IsGraph g → IsRightByWeight g h → ⊥
never_long h s t r law made source target long is one g graph right =
    law g h s t graph right one made (subst (λ k. s < k) right.nodes source) (subst (λ k. t < k) right.nodes target) (long is)

-- and what it returned
pub length_over : LengthsAreLeast → (h : Hierarchy) (s t : ℕ) (n : Option ℕ) → s < length h.ranks → t < length h.ranks → IsLengthBy h s t n → (g : Graph) → IsRight g h → IsLeastLength g s t n
length_over law h s t n source target found g right = law g h s t n right (subst (λ k. s < k) right.nodes source) (subst (λ k. t < k) right.nodes target) found

-- What a search between several starts and ends found, and its unpacking, together.
-- The places of a walk between a start and an end, and the arcs that its links represent

module _ (names : PlacesNameLinks) (h : Hierarchy) (starts ends : List Seed) (from to : ℕ) (places : List LinkId) (c : Cost) (w : IsWalkBetween h starts ends from to places c) where
  unfolded_way : (arcs : List Link) → Unfolded h places arcs → IsUnfoldedWay h w.start w.stop c arcs
  unfolded_way arcs u = record {
    links = u.links;
    way = w.way;
    leads = subst (λ (ls : List Link). IsRiseFall h ls w.start.node w.stop.node w.way) (names h places w.leads.links u.links w.leads.are_at u.are_at) w.leads.leads;
    sum = w.sum;
    unfolds = u.unfolds;
  }

  route_between : (nodes : List ℕ) → IsValueBetween h starts ends longest (Some c) → IsUnpacked h w.start.node places nodes → IsRouteBetweenBy h starts ends (Some (record { start = from; end = to; cost = c; nodes = nodes }))
  route_between nodes value u = (
    value,
    record {
      start = w.start;
      stop = w.stop;
      begins = w.begins;
      stops = w.stops;
      arcs = u.arcs;
      way = unfolded_way u.arcs u.unfolded;
      few = u.few;
      along = u.in_order;
    },
  )

  too_long_between : IsValueBetween h starts ends longest (Some c) → IsTooLong h places → HasTooLongBetween h starts ends
  too_long_between value u = record {
    start = w.start;
    stop = w.stop;
    begins = (from, slice_get_within starts from w.start w.begins, get_or_from_slice_get starts from w.start w.start w.begins);
    stops = (to, slice_get_within ends to w.stop w.stops, get_or_from_slice_get ends to w.stop w.stop w.stops);
    cost = c;
    least = value;
    arcs = u.arcs;
    way = unfolded_way u.arcs u.unfolded;
    many = u.many;
  }

-- The same of what a search of an equal hierarchy found

pub found_between : PlacesNameLinks → (k h : Hierarchy) (starts ends : List Seed) (from to : ℕ) (places : List LinkId) (c : Cost) {node : ℕ} {nodes : List ℕ} → (w : IsLeastWalkBetween h starts ends from to places c)
    → k ≡ h → IsUnpacked k node places nodes → node ≡ w.walk.start.node → IsValueBetween h starts ends longest (Some c)
    → IsRouteBetweenBy h starts ends (Some (record { start = from; end = to; cost = c; nodes = nodes }))
found_between names k h starts ends from to places c {node} {nodes} w there u same value =
    route_between names h starts ends from to places c w.walk nodes value (subst (λ n. IsUnpacked h n places nodes) same (subst (λ (m : Hierarchy). IsUnpacked m node places nodes) there u))

pub long_between : PlacesNameLinks → (h : Hierarchy) (starts ends : List Seed) (from to : ℕ) (places : List LinkId) (c : Cost) → IsLeastWalkBetween h starts ends from to places c → IsValueBetween h starts ends longest (Some c) → IsTooLong h places → HasTooLongBetween h starts ends
long_between names h starts ends from to places c w value u = too_long_between names h starts ends from to places c w.walk value u

pub walk-of : {k h : Hierarchy} (starts ends : List Seed) (o : Option FoundBetween) (f : FoundBetween) (places : List LinkId) → k ≡ h → o ≡ Some f → places ≡ f.links.items → IfSome o (λ (e : FoundBetween). IsLeastWalkBetween k starts ends e.start e.end e.links.items e.cost)
    → IsLeastWalkBetween h starts ends f.start f.end places f.cost
walk-of {k} {h} starts ends o f places same is slice walk =
    subst (λ (ps : List LinkId). IsLeastWalkBetween h starts ends f.start f.end ps f.cost) (sym slice) (subst (λ (m : Hierarchy). IsLeastWalkBetween m starts ends f.start f.end f.links.items f.cost) same
    (subst (λ (p : Option FoundBetween). IfSome p (λ (e : FoundBetween). IsLeastWalkBetween k starts ends e.start e.end e.links.items e.cost)) is walk))

pub exact-of : {k h : Hierarchy} (starts ends : List Seed) (o p : Option Cost) → k ≡ h → o ≡ p → ((g : Graph) → IsRight g k → IsDistanceBetween g starts ends o) → (g : Graph) → IsRight g h → IsDistanceBetween g starts ends p
exact-of starts ends o p same is exact g right = subst (IsDistanceBetween g starts ends) is (exact g (subst (IsRight g) (sym same) right))

pub value-of : {k h : Hierarchy} (starts ends : List Seed) (o p : Option Cost) → k ≡ h → o ≡ p → IsValueBetween k starts ends longest o → IsValueBetween h starts ends longest p
value-of {h = h} starts ends o p same is value = subst (IsValueBetween h starts ends longest) is (subst (λ (m : Hierarchy). IsValueBetween m starts ends longest o) same value)

pub node_at : (seeds : List Seed) (k : ℕ) (seed other : Seed) → slice_get seeds k ≡ Some seed → (slice_index_or seeds k other).node ≡ seed.node
node_at seeds k seed other is = ap (λ (s : Seed). s.node) (get_or_from_slice_get seeds k seed other is)

-- the length alone
pub shortest_length : LengthsBetweenAreLeast → (h : Hierarchy) (starts ends : List Seed) (v : Option Cost) (n : Option ℕ) → IsWellMade h → AreSeeds h starts → AreSeeds h ends → IsValueBetween h starts ends longest v → n ≡ option_map length_of v
    → (g : Graph) → IsRightByWeight g h → IsLeastLengthBetween g starts ends n
shortest_length law h starts ends v n made begins stops value is g right = subst (IsLeastLengthBetween g starts ends) (sym is) (law g h starts ends v right made begins stops value)

-- a refusal of the unpacking is that of the call
pub is_too_long : {T : Type 0} (r : Result T UnpackError) (e : UnpackError) → IsErrAnd r (λ x. x ≡ e) → r ≡ Err TooLong → e ≡ TooLong
is_too_long (Ok x) e is long = absurd is
is_too_long (Err x) e is long = cc

-- The numbers of a row are lengths of least walks.
same_number : (v : Option Cost) → length_or_none v ≡ or_none (option_map length_of v)
same_number None = refl
same_number (Some c) = refl

row-length : LengthsAreLeast → LengthsAreLeastByWeight → (h : Hierarchy) (s t n : ℕ) → s < length h.ranks → t < length h.ranks → IsLengthFrom h s t n → IsRowLength h s t n
row-length exact by_weight h s t n s_in t_in number =
    let found : IsLengthBy h s t (option_map length_of number.cost) = record { value = number.cost; least = number.is; long = refl } in
    record {
      length = option_map length_of number.cost;
      found = found;
      exact = length_over exact h s t (option_map length_of number.cost) s_in t_in found;
      by_weight = λ g right. by_weight g h s t (option_map length_of number.cost) right (omega (arith, s_in, right.nodes)) (omega (arith, t_in, right.nodes)) found;
      written = number.written ∙ same_number number.cost;
    }

module _ (exact : LengthsAreLeast) (by_weight : LengthsAreLeastByWeight) (k h : Hierarchy) (same : k ≡ h) (sources targets : List ℕ) (sources_in : All (λ s. s < length h.ranks) sources) (targets_in : All (λ t. t < length h.ranks) targets) (from : ℕ) (old new : List ℕ) where
  pub rows-lengths : (n : ℕ) → n ≤ length sources → AreRows (IsLengthFrom k) sources targets from n old new → AreRows (IsRowLength h) sources targets from n old new
  rows-lengths n within rows =
      rows-weaker (IsLengthFrom h) (IsRowLength h) h sources targets from n old new sources_in targets_in within (λ s t m s_in t_in number. row-length exact by_weight h s t m s_in t_in number)
      (subst (λ (x : Hierarchy). AreRows (IsLengthFrom x) sources targets from n old new) same rows)

  pub first-lengths : AreFirstRows (IsLengthFrom k) sources targets from old new → AreFirstRows (IsRowLength h) sources targets from old new
  first-lengths first = record { count = first.count; fewer = first.fewer; rows = rows-lengths first.count (omega (arith, first.fewer)) first.rows }

module _ (between : LengthsBetweenAreLeast) (exact : LongestIsExact) (h : Hierarchy) (made : IsWellMade h) (starts : List Seed) (begins : AreSeeds h starts) where
  row-length_from : (t n : ℕ) → t < length h.ranks → IsLengthFromAny h starts longest t n → IsRowLengthFrom h starts t n
  row-length_from t n t_in number =
      let stops : AreSeeds h (free t ∷ []) = seeds-cons h (free t) [] (seed-node h t t_in) (seeds-none h) in
      record {
        length = option_map length_of number.cost;
        found = record { value = number.cost; least = number.is; long = refl };
        exact = λ g right. record { value = number.cost; least = exact h starts (free t ∷ []) number.cost made begins stops number.is g right; long = refl };
        by_weight = shortest_length between h starts (free t ∷ []) number.cost (option_map length_of number.cost) made begins stops number.is refl;
        written = number.written ∙ same_number number.cost;
      }

  pub row-lengths_from : (k : Hierarchy) → k ≡ h → (limit : ℕ) → limit ≡ 2 ^ 62 → (targets : List ℕ) (from : ℕ) (old new : List ℕ) → All (λ t. t < length h.ranks) targets
      → IsRow (IsLengthFromAny k starts (of_walk limit 0)) targets from old new → IsRow (IsRowLengthFrom h starts) targets from old new
  row-lengths_from k same limit whole targets from old new targets_in row =
      row-weaker (IsLengthFromAny h starts longest) (IsRowLengthFrom h starts) h targets from old new targets_in row-length_from
      (subst (λ m. IsRow (IsLengthFromAny h starts (of_walk m 0)) targets from old new) whole (subst (λ (x : Hierarchy). IsRow (IsLengthFromAny x starts (of_walk limit 0)) targets from old new) same row))

  module _ (within : LengthsWithinAreLeast) (weight : RightIsRightByWeight) where
    row-length_within : (limit t n : ℕ) → limit ≤ 2 ^ 62 → t < length h.ranks → IsLengthFromAny h starts (of_walk limit 0) t n → IsRowLengthWithin h starts limit t n
    row-length_within limit t n most t_in number =
        let stops : AreSeeds h (free t ∷ []) = seeds-cons h (free t) [] (seed-node h t t_in) (seeds-none h) in
        let least = λ (g : Graph) (right : IsRightByWeight g h). within g h starts (free t ∷ []) limit number.cost right made begins stops most number.is in
        record {
          length = option_map length_of number.cost;
          found = record { value = number.cost; least = number.is; long = refl };
          exact = λ g right. least g (weight g h right);
          by_weight = least;
          written = number.written ∙ same_number number.cost;
        }

    pub row-lengths_within : (k : Hierarchy) → k ≡ h → (limit : ℕ) → limit ≤ 2 ^ 62 → (targets : List ℕ) (from : ℕ) (old new : List ℕ) → All (λ t. t < length h.ranks) targets
        → IsRow (IsLengthFromAny k starts (of_walk limit 0)) targets from old new → IsRow (IsRowLengthWithin h starts limit) targets from old new
    row-lengths_within k same limit most targets from old new targets_in row =
        row-weaker (IsLengthFromAny h starts (of_walk limit 0)) (IsRowLengthWithin h starts limit) h targets from old new targets_in (λ t n t_in. row-length_within limit t n most t_in)
        (subst (λ (x : Hierarchy). IsRow (IsLengthFromAny x starts (of_walk limit 0)) targets from old new) same row)
