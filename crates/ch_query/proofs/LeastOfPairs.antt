-- A query of a hierarchy that is right for a graph finds the least over all pairs of a start and an end.
use Rattle.std.proofs.Common.{ℕ, ◌≡◌, ◌<◌, ◌≤◌, ◌^◌, List, Option, Some, None, IfSome, option_map, Contains, ap, refl, sym, subst, inl, inr, arith}
use Rattle.ch_cost.specs.declared.cost.Cost.{Cost}
use Rattle.ch_cost.specs.Cost.{◌⊕◌, ◌≺◌, length_of, IsNoLonger, IsSummable}
use Rattle.ch_cost.specs.Cost.Laws.{at_most_refl, at_most-from_below, at_most_trans_below, below_not_at_most, cases_cost, sum_below_left, sum_below_right, length_of-sum, cost-induction}
use Rattle.ch_cost.specs.Cost.Numbers.{length_of-of_walk, arcs_of-of_walk, summable-from_numbers, no_longer-from_lengths, lengths-from_no_longer, lengths-in_limit}
use Rattle.ch_graph.specs.declared.link.Link.{Link}
use Rattle.ch_graph.specs.declared.hierarchy.LinkId.{LinkId}
use Rattle.ch_graph.specs.Walk.{Walk}
use Rattle.ch_graph.specs.Walk.Laws.{one_arc, join}
use Rattle.ch_graph.specs.Graph.{Graph, ArcOf, IsDistance}
use Rattle.ch_graph.specs.Hierarchy.{Hierarchy, IsWellMade, IsRight, IsRiseFall, IsValue}
use Rattle.ch_graph.specs.Hierarchy.Chains.{chain-walk}
use Rattle.ch_query.specs.declared.search.FoundBetween.{FoundBetween}
use Rattle.ch_query.specs.declared.seed.Seed.{Seed}
use Rattle.ch_query.specs.Seeds.{IsSeed, AreSeeds, HasWalkBetween, IsValueBetween, IsWalkBetween, IsLeastWalkBetween, IsDistanceBetween, cost_between, longest}
use Rattle.ch_query.proofs.SeedPlaces.{among-from_get, seed-in}
use Rattle.ch_query.proofs.OneTurn.{bound_in_limit}

-- where no distance is low, no walk is: of all low walks one would be the least
no_walk : {g : Graph} {s t : ℕ} {Low : Cost → Type 0} → ((d e : Cost) → e ≺ d → Low d → Low e) → ((e : Cost) → IsDistance g s t (Some e) → Low e → ⊥) → (d : Cost) → Walk (ArcOf g) s t d → Low d → ⊥
no_walk {g} {s} {t} {Low} lower never = cost-induction (λ (d : Cost). Walk (ArcOf g) s t d → Low d → ⊥) (λ d less walk low. never d (
  walk,
  λ e other. elim (cases_cost e d) [
    | inl below ↦ absurd (less e below other (lower d e below low))
    | inr most ↦ most
  ],
) low)

-- with a longer way between them a start and an end cost more
between_below : (start stop : Seed) {a b : Cost} → a ≺ b → cost_between start a stop ≺ cost_between start b stop
between_below start stop below = sum_below_left (sum_below_right (at_most_refl start.cost) below) (at_most_refl stop.cost)

module _ {g : Graph} {h : Hierarchy} (right : IsRight g h) where
  -- a link represents a walk of the graph
  link_walk : {l : Link} → Contains h.links l → Walk (ArcOf g) l.from l.to l.cost
  link_walk {l} among =
      let arcs = right.unfolds l among in
      chain-walk (λ a arc. one_arc arc) (right.unfolded l arcs.0 among arcs.1)

  -- and so does a rise-fall walk, of any length
  graph_walk : {links : List Link} {s t : ℕ} {c : Cost} → IsRiseFall h links s t c → Walk (ArcOf g) s t c
  graph_walk {s = s} {t = t} leads = subst (λ (d : Cost). Walk (ArcOf g) s t d) (sym leads.sum) (join (chain-walk (λ l kind. link_walk kind.among) leads.rises) (chain-walk (λ l kind. link_walk kind.among) leads.falls))

  module _ (made : IsWellMade h) (starts ends : List Seed) (begins : AreSeeds h starts) (stops : AreSeeds h ends) where
    -- what a distance within the bound costs with two seeds is never cut off
    no_longer : (p : Cost) {w : Cost} (q : Cost) {c : Cost} → length_of p ≤ 2 ^ 57 → IsNoLonger w h.bound → length_of q ≤ 2 ^ 57 → c ≡ (p ⊕ w) ⊕ q → IsNoLonger c longest
    no_longer p {w} q {c} first short last sum =
        let way : length_of w ≤ length_of h.bound = lengths-from_no_longer w h.bound short in
        let most : length_of h.bound ≤ 2 ^ 57 = lengths-in_limit h.bound (bound_in_limit made) in
        let whole : length_of c ≡ length_of ((p ⊕ w) ⊕ q) = ap length_of sum in
        no_longer-from_lengths c longest (omega (arith, first, last, way, most, whole, length_of-sum (p ⊕ w) q, length_of-sum p w, length_of-of_walk (2 ^ 62) 0))

    -- a pair that has a distance has a walk of that cost
    pair-walk : {start stop : Seed} → Contains starts start → Contains ends stop → {way : Cost} → IsDistance g start.node stop.node (Some way) → {c : Cost} → c ≡ cost_between start way stop → HasWalkBetween h starts ends longest c
    pair-walk {start} {stop} first last {way} distance sum =
        let from : IsSeed h start = seed-in starts begins first in
        let to : IsSeed h stop = seed-in ends stops last in
        let from_in : start.node < g.nodes = subst (λ n. start.node < n) right.nodes from.node_in in
        let to_in : stop.node < g.nodes = subst (λ n. stop.node < n) right.nodes to.node_in in
        let value : IsValue h start.node stop.node (Some way) = (right.value start.node stop.node (Some way) from_in to_in).0 distance in
        record {
          start = start;
          stop = stop;
          begins = first;
          stops = last;
          links = value.0.links;
          way = way;
          leads = value.0.leads;
          sum = sum;
          short = no_longer start.cost stop.cost from.length value.0.short to.length sum;
        }

    -- and the least walk of all has the distance of its own start and end
    own_distance : {start stop : Seed} → Contains starts start → Contains ends stop → {links : List Link} {way : Cost}
        → IsRiseFall h links start.node stop.node way → {c : Cost} → c ≡ cost_between start way stop → IsValueBetween h starts ends longest (Some c)
        → IsDistance g start.node stop.node (Some way)
    own_distance {start} {stop} first last {way} leads {c} sum least = (
      graph_walk leads,
      λ d walk. elim (cases_cost d way) [
        | inl below ↦ absurd (no_walk (λ a e less low. at_most_trans_below (at_most-from_below less) low) never d walk below)
        | inr most ↦ most
      ],
    )
      where
        never : (e : Cost) → IsDistance g start.node stop.node (Some e) → e ≺ way → ⊥
        never e distance below =
            let lesser : cost_between start e stop ≺ c = subst (λ (d : Cost). cost_between start e stop ≺ d) (sym sum) (between_below start stop below) in
            below_not_at_most lesser (least.1 (cost_between start e stop) (pair-walk first last distance refl))

    pub least_pair : (v : Option Cost) → IsValueBetween h starts ends longest v → IsDistanceBetween g starts ends v
    least_pair None is = λ c pair. is c (pair-walk pair.begins pair.stops pair.distance pair.sum)
    least_pair (Some c) is =
        let walk : HasWalkBetween h starts ends longest c = is.0 in (
          record {
            start = walk.start;
            stop = walk.stop;
            begins = walk.begins;
            stops = walk.stops;
            way = walk.way;
            distance = own_distance walk.begins walk.stops walk.leads walk.sum is;
            sum = walk.sum;
          },
          λ d pair. is.1 d (pair-walk pair.begins pair.stops pair.distance pair.sum),
        )

-- the walk that is found is a least one of its pair
pub least_walk : {h : Hierarchy} → IsWellMade h → {starts ends : List Seed} → AreSeeds h starts → AreSeeds h ends
    → {from to : ℕ} {places : List LinkId} {c : Cost} → IsValueBetween h starts ends longest (Some c) → IsWalkBetween h starts ends from to places c
    → IsLeastWalkBetween h starts ends from to places c
least_walk made {starts} {ends} begins stops {from} {to} value walk = record {
  walk = walk;
  distance = λ g right. own_distance right made starts ends begins stops (among-from_get starts from walk.begins) (among-from_get ends to walk.stops) walk.leads.leads walk.sum value;
}

-- the bound of such a query is one that sums may have
pub longest_summable : {bound : Cost} → bound ≡ longest → IsSummable bound
longest_summable is = subst IsSummable (sym is) (summable-from_numbers longest (omega (arith, length_of-of_walk (2 ^ 62) 0)) (omega (arith, arcs_of-of_walk (2 ^ 62) 0)))

-- what is found: its cost, that it is a walk, and that it is a least one
abbrev pub cost_found : Option FoundBetween → Option Cost
cost_found found = option_map (λ (f : FoundBetween). f.cost) found

abbrev pub IsWalkFound : Hierarchy → List Seed → List Seed → Option FoundBetween → Type 0
IsWalkFound h starts ends found = IfSome found (λ (f : FoundBetween). IsWalkBetween h starts ends f.start f.end f.links.items f.cost)

abbrev pub IsLeastFound : Hierarchy → List Seed → List Seed → Option FoundBetween → Type 0
IsLeastFound h starts ends found = IfSome found (λ (f : FoundBetween). IsLeastWalkBetween h starts ends f.start f.end f.links.items f.cost)

-- the cost is that of the least pair, in each graph that the hierarchy is right for
abbrev pub IsExact : Hierarchy → List Seed → List Seed → Option Cost → Type 0
IsExact h starts ends v = (g : Graph) → IsRight g h → IsDistanceBetween g starts ends v

-- The same where the bound is given by an equation

module _ {h : Hierarchy} (made : IsWellMade h) (starts ends : List Seed) (begins : AreSeeds h starts) (stops : AreSeeds h ends) {bound : Cost} (is_bound : bound ≡ longest) where
  value_here : (v : Option Cost) → IsValueBetween h starts ends bound v → IsValueBetween h starts ends longest v
  value_here v value = subst (λ (d : Cost). IsValueBetween h starts ends d v) is_bound value

  pub exact_here : (v : Option Cost) → IsValueBetween h starts ends bound v → IsExact h starts ends v
  exact_here v value g right = least_pair right made starts ends begins stops v (value_here v value)

  pub least_here : (found : Option FoundBetween) → IsValueBetween h starts ends bound (cost_found found) → IsWalkFound h starts ends found → IsLeastFound h starts ends found
  least_here None value walk = tt
  least_here (Some f) value walk = least_walk made begins stops (value_here (Some f.cost) value) walk
