-- Routes between several starts and several ends, each with a cost of its own.
use Rattle.std.specs.Prelude.{ℕ, ◌≡◌, ◌+◌, ◌-◌, ◌<◌, ◌≤◌, List, [], ◌∷◌, length, map, Contains, Option, Some, None, option_map, slice_get}
use Rattle.ch_cost.specs.declared.cost.Cost.{Cost}
use Rattle.ch_cost.specs.Cost.{length_of, of_walk}
use Rattle.ch_graph.specs.declared.link.Link.{Link}
use Rattle.ch_graph.specs.Walk.{Walk}
use Rattle.ch_graph.specs.Graph.{Graph, ArcOf}
use Rattle.ch_graph.specs.Hierarchy.{Hierarchy, IsRight, IsRiseFall, UnfoldsAll}
use Rattle.ch_laws.specs.ByWeight.{IsRightByWeight}
use Rattle.ch_query.specs.declared.seed.Seed.{Seed}
use Rattle.ch_query.specs.Seeds.{IsDistanceBetween, IsValueBetween, cost_between, longest}
use Rattle.ch_query.specs.Ways.{free}
use Rattle.ch_route.specs.Routes.{Route, IsFewestWalk, or_none}

-- the places of a start and of an end in their lists, what these and the way between them cost together, and the nodes
-- along that way, both ends among them
pub record RouteBetween : Type 0 where
  pub start : ℕ
  pub end : ℕ
  pub cost : Cost
  pub nodes : List ℕ

-- In a graph

-- the nodes are those of a route of this kind from the start to the end that were taken
pub record LeadsBetween (Is : ℕ → ℕ → Option Route → Type 0) (starts ends : List Seed) (r : RouteBetween) : Type 0 where
  pub start : Seed
  pub stop : Seed
  pub begins : slice_get starts r.start ≡ Some start
  pub stops : slice_get ends r.end ≡ Some stop
  pub way : Cost
  pub leads : Is start.node stop.node (Some (record { cost = way; nodes = r.nodes }))
  pub sum : r.cost ≡ cost_between start way stop

-- The cost is the least over all pairs of a start and an end of what these and the distance between them cost together,
-- and the nodes are those of a least walk with the fewest arcs between two that have it; or no pair has a walk.
abbrev pub IsLeastBetween : Graph → List Seed → List Seed → Option RouteBetween → Type 0
IsLeastBetween g starts ends (Some r) = IsDistanceBetween g starts ends (Some r.cost) × LeadsBetween (IsFewestWalk g) starts ends r
IsLeastBetween g starts ends None = IsDistanceBetween g starts ends None

-- the length of that least, or none
pub record IsLengthBetween (g : Graph) (starts ends : List Seed) (n : Option ℕ) : Type 0 where
  pub value : Option Cost
  pub least : IsDistanceBetween g starts ends value
  pub long : n ≡ option_map length_of value

-- By length alone

-- a walk leads from one of the starts to one of the ends, and the three are n long together
pub record HasLengthBetween (g : Graph) (starts ends : List Seed) (n : ℕ) : Type 0 where
  pub start : Seed
  pub stop : Seed
  pub begins : Contains starts start
  pub stops : Contains ends stop
  pub way : Cost
  pub walk : Walk (ArcOf g) start.node stop.node way
  pub sum : n ≡ length_of start.cost + length_of way + length_of stop.cost

-- the least such length, or none where no walk leads from a start to an end
abbrev pub IsLeastLengthBetween : Graph → List Seed → List Seed → Option ℕ → Type 0
IsLeastLengthBetween g starts ends (Some n) = HasLengthBetween g starts ends n × ((m : ℕ) → HasLengthBetween g starts ends m → n ≤ m)
IsLeastLengthBetween g starts ends None = (m : ℕ) → HasLengthBetween g starts ends m → ⊥

-- that least length where it is at most the limit, or none where each such length is above the limit
abbrev pub IsLeastLengthWithin : Graph → List Seed → List Seed → ℕ → Option ℕ → Type 0
IsLeastLengthWithin g starts ends limit (Some n) = IsLeastLengthBetween g starts ends (Some n) × (n ≤ limit)
IsLeastLengthWithin g starts ends limit None = (m : ℕ) → HasLengthBetween g starts ends m → limit < m

-- It is that long, and the nodes are those of a route of this kind between the start and the end that were taken; or no
-- walk leads from a start to an end.
abbrev pub IsShortestBetween : (Graph → ℕ → ℕ → Option Route → Type 0) → Graph → List Seed → List Seed → Option RouteBetween → Type 0
IsShortestBetween IsRoute g starts ends (Some r) = IsLeastLengthBetween g starts ends (Some (length_of r.cost)) × LeadsBetween (IsRoute g) starts ends r
IsShortestBetween IsRoute g starts ends None = IsLeastLengthBetween g starts ends None

-- By a hierarchy

-- The links are a rise-fall walk from one seed to the other, the three cost c together, and the arcs are what the links
-- represent.
pub record IsUnfoldedWay (h : Hierarchy) (start stop : Seed) (c : Cost) (arcs : List Link) : Type 0 where
  pub links : List Link
  pub way : Cost
  pub leads : IsRiseFall h links start.node stop.node way
  pub sum : c ≡ cost_between start way stop
  pub unfolds : UnfoldsAll h links arcs

-- The nodes are those of the arcs that such a walk represents, from the start to the end that were taken, fewer than there
-- are nodes.
pub record IsUnfoldedBetween (h : Hierarchy) (starts ends : List Seed) (r : RouteBetween) : Type 0 where
  pub start : Seed
  pub stop : Seed
  pub begins : slice_get starts r.start ≡ Some start
  pub stops : slice_get ends r.end ≡ Some stop
  pub arcs : List Link
  pub way : IsUnfoldedWay h start stop r.cost arcs
  pub few : length arcs ≤ length h.ranks - 1
  pub along : r.nodes ≡ start.node ∷ map (λ (l : Link). l.to) arcs

-- such a route, of the least cost over all pairs of a start and an end; or none, where no rise-fall walk leads from a start
-- to an end and is at most `longest` with both
abbrev pub IsRouteBetweenBy : Hierarchy → List Seed → List Seed → Option RouteBetween → Type 0
IsRouteBetweenBy h starts ends (Some r) = IsValueBetween h starts ends longest (Some r.cost) × IsUnfoldedBetween h starts ends r
IsRouteBetweenBy h starts ends None = IsValueBetween h starts ends longest None

-- a least rise-fall walk between a start and an end represents as many arcs as there are nodes, or more
pub record HasTooLongBetween (h : Hierarchy) (starts ends : List Seed) : Type 0 where
  pub start : Seed
  pub stop : Seed
  pub begins : Contains starts start
  pub stops : Contains ends stop
  pub cost : Cost
  pub least : IsValueBetween h starts ends longest (Some cost)
  pub arcs : List Link
  pub way : IsUnfoldedWay h start stop cost arcs
  pub many : length h.ranks - 1 < length arcs

-- the length of the least cost over all pairs that is no longer than the bound, or none where there is none
pub record IsLengthWithinBy (h : Hierarchy) (starts ends : List Seed) (bound : Cost) (n : Option ℕ) : Type 0 where
  pub value : Option Cost
  pub least : IsValueBetween h starts ends bound value
  pub long : n ≡ option_map length_of value

-- and that of any length
abbrev pub IsLengthBetweenBy : Hierarchy → List Seed → List Seed → Option ℕ → Type 0
IsLengthBetweenBy h starts ends = IsLengthWithinBy h starts ends longest

-- In a row of lengths

-- the length from several starts to one node, by the hierarchy and in each graph that it is right for, be it by weight alone
pub record IsRowLengthFrom (h : Hierarchy) (starts : List Seed) (t n : ℕ) : Type 0 where
  pub length : Option ℕ
  pub found : IsLengthBetweenBy h starts (free t ∷ []) length
  pub exact : (g : Graph) → IsRight g h → IsLengthBetween g starts (free t ∷ []) length
  pub by_weight : (g : Graph) → IsRightByWeight g h → IsLeastLengthBetween g starts (free t ∷ []) length
  pub written : n ≡ or_none length

-- likewise where the length is at most the limit, and none where it is above
pub record IsRowLengthWithin (h : Hierarchy) (starts : List Seed) (limit t n : ℕ) : Type 0 where
  pub length : Option ℕ
  pub found : IsLengthWithinBy h starts (free t ∷ []) (of_walk limit 0) length
  pub exact : (g : Graph) → IsRight g h → IsLeastLengthWithin g starts (free t ∷ []) limit length
  pub by_weight : (g : Graph) → IsRightByWeight g h → IsLeastLengthWithin g starts (free t ∷ []) limit length
  pub written : n ≡ or_none length
