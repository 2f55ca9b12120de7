-- Why routes of a hierarchy that is right for a graph are least walks of it, as statements.
use Rattle.std.specs.Prelude.{ℕ, ◌≡◌, ◌<◌, ◌≤◌, ◌^◌, List, Option, option_map}
use Rattle.ch_cost.specs.declared.cost.Cost.{Cost}
use Rattle.ch_cost.specs.Cost.{length_of, of_walk}
use Rattle.ch_graph.specs.declared.version.Version.TheVariants.{One}
use Rattle.ch_graph.specs.Graph.{Graph, IsLeastLength}
use Rattle.ch_graph.specs.Limits.{IsGraph}
use Rattle.ch_graph.specs.Hierarchy.{Hierarchy, IsWellMade, IsRight}
use Rattle.ch_laws.specs.ByWeight.{IsRightByWeight}
use Rattle.ch_query.specs.declared.seed.Seed.{Seed}
use Rattle.ch_query.specs.Seeds.{AreSeeds, IsValueBetween, longest}
use Rattle.ch_route.specs.Between.{RouteBetween, HasTooLongBetween, IsLeastBetween, IsLeastLengthBetween, IsLeastLengthWithin, IsRouteBetweenBy, IsShortestBetween}
use Rattle.ch_route.specs.Routes.{Route, IsFewestWalk, IsLeastWalk, IsRouteBy, HasTooLong, IsLengthBy}

-- of a right hierarchy they are least walks with the fewest arcs
abbrev pub RoutesAreFewest : Type 0
RoutesAreFewest = (g : Graph) (h : Hierarchy) (s t : ℕ) (r : Option Route) → IsGraph g → IsRight g h → s < g.nodes → t < g.nodes → IsRouteBy h s t r → IsFewestWalk g s t r

-- of one that is right by weight they are least walks
abbrev pub RoutesAreLeastByWeight : Type 0
RoutesAreLeastByWeight = (g : Graph) (h : Hierarchy) (s t : ℕ) (r : Option Route) → IsRightByWeight g h → s < g.nodes → t < g.nodes → IsRouteBy h s t r → IsLeastWalk g s t r

-- and lengths are least, of a right hierarchy
abbrev pub LengthsAreLeast : Type 0
LengthsAreLeast = (g : Graph) (h : Hierarchy) (s t : ℕ) (n : Option ℕ) → IsRight g h → s < g.nodes → t < g.nodes → IsLengthBy h s t n → IsLeastLength g s t n

-- and of one that is right by weight
abbrev pub LengthsAreLeastByWeight : Type 0
LengthsAreLeastByWeight = (g : Graph) (h : Hierarchy) (s t : ℕ) (n : Option ℕ) → IsRightByWeight g h → s < g.nodes → t < g.nodes → IsLengthBy h s t n → IsLeastLength g s t n

-- no route of a right hierarchy is too long
abbrev pub NoneTooLong : Type 0
NoneTooLong = (g : Graph) (h : Hierarchy) (s t : ℕ) → IsGraph g → IsRight g h → s < g.nodes → t < g.nodes → HasTooLong h s t → ⊥

-- nor of one of version 1 that is right by weight
abbrev pub NoneTooLongByWeight : Type 0
NoneTooLongByWeight = (g : Graph) (h : Hierarchy) (s t : ℕ) → IsGraph g → IsRightByWeight g h → h.version ≡ One → IsWellMade h → s < g.nodes → t < g.nodes → HasTooLong h s t → ⊥

-- Between several starts and ends

-- by a right hierarchy the cost is the least over all pairs
abbrev pub RoutesBetweenAreLeast : Type 0
RoutesBetweenAreLeast = (g : Graph) (h : Hierarchy) (starts ends : List Seed) (r : Option RouteBetween) → IsGraph g → IsRight g h → IsWellMade h → AreSeeds h starts → AreSeeds h ends → IsRouteBetweenBy h starts ends r → IsLeastBetween g starts ends r

-- so the length is too, and the route between the two that were taken has the fewest arcs
abbrev pub RoutesBetweenAreFewest : Type 0
RoutesBetweenAreFewest = (g : Graph) (h : Hierarchy) (starts ends : List Seed) (r : Option RouteBetween) → IsGraph g → IsRight g h → IsWellMade h → AreSeeds h starts → AreSeeds h ends → IsRouteBetweenBy h starts ends r → IsShortestBetween IsFewestWalk g starts ends r

-- by one that is right by weight the length is the least, and the route a least walk
abbrev pub RoutesBetweenAreLeastByWeight : Type 0
RoutesBetweenAreLeastByWeight = (g : Graph) (h : Hierarchy) (starts ends : List Seed) (r : Option RouteBetween) → IsRightByWeight g h → IsWellMade h → AreSeeds h starts → AreSeeds h ends → IsRouteBetweenBy h starts ends r → IsShortestBetween IsLeastWalk g starts ends r

-- the length alone
abbrev pub LengthsBetweenAreLeast : Type 0
LengthsBetweenAreLeast = (g : Graph) (h : Hierarchy) (starts ends : List Seed) (v : Option Cost) → IsRightByWeight g h → IsWellMade h → AreSeeds h starts → AreSeeds h ends → IsValueBetween h starts ends longest v → IsLeastLengthBetween g starts ends (option_map length_of v)

-- and within a limit
abbrev pub LengthsWithinAreLeast : Type 0
LengthsWithinAreLeast =
    (g : Graph) (h : Hierarchy) (starts ends : List Seed) (limit : ℕ) (v : Option Cost) → IsRightByWeight g h → IsWellMade h → AreSeeds h starts → AreSeeds h ends → limit ≤ 2 ^ 62 → IsValueBetween h starts ends (of_walk limit 0) v
    → IsLeastLengthWithin g starts ends limit (option_map length_of v)

-- and no route is too long, by a right hierarchy
abbrev pub NoneTooLongBetween : Type 0
NoneTooLongBetween = (g : Graph) (h : Hierarchy) (starts ends : List Seed) → IsGraph g → IsRight g h → IsWellMade h → AreSeeds h starts → AreSeeds h ends → HasTooLongBetween h starts ends → ⊥

-- or by one of version 1 that is right by weight
abbrev pub NoneTooLongBetweenByWeight : Type 0
NoneTooLongBetweenByWeight = (g : Graph) (h : Hierarchy) (starts ends : List Seed) → IsGraph g → IsRightByWeight g h → h.version ≡ One → IsWellMade h → AreSeeds h starts → AreSeeds h ends → HasTooLongBetween h starts ends → ⊥
