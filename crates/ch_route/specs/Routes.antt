-- The least route between two nodes: by a hierarchy, and as a walk of a graph.
use Rattle.std.specs.Prelude.{ℕ, ◌≡◌, ◌-◌, ◌<◌, ◌≤◌, List, ◌∷◌, length, map, Option, Some, None, option_map}
use Rattle.ch_cost.specs.declared.cost.Cost.{Cost}
use Rattle.ch_cost.specs.Cost.{length_of}
use Rattle.ch_graph.specs.declared.link.Link.{Link}
use Rattle.ch_graph.specs.Walk.{Walk, visited}
use Rattle.ch_graph.specs.Graph.{Graph, ArcOf, IsLeastLength, IsShortest}
use Rattle.ch_graph.specs.Hierarchy.{Hierarchy, IsRight, IsValue}
use Rattle.ch_laws.specs.ByWeight.{IsRightByWeight}
use Rattle.ch_laws.specs.Theorems.{IsLeastRoute}
use Rattle.ch_table.specs.declared.table.TheConstants.{NO_LENGTH}

-- what a way from one node to another costs, and the nodes along it, both ends among them
pub record Route : Type 0 where
  pub cost : Cost
  pub nodes : List ℕ

-- In a graph

-- the length is the least over all walks of the graph, and some walk of exactly that length goes along the nodes; or
-- there is no walk
abbrev pub IsLeastWalk : Graph → ℕ → ℕ → Option Route → Type 0
IsLeastWalk g s t (Some r) = IsShortest g r.nodes s t r.cost
IsLeastWalk g s t None = IsLeastLength g s t None

-- no walk of the same length has fewer arcs than there are from node to node
abbrev pub HasFewestArcs : Graph → ℕ → ℕ → Route → Type 0
HasFewestArcs g s t r = (c : Cost) (w : Walk (ArcOf g) s t c) → length_of c ≡ length_of r.cost → length r.nodes - 1 ≤ length (visited w)

-- a least walk, and of all least walks one with the fewest arcs; or there is no walk
abbrev pub IsFewestWalk : Graph → ℕ → ℕ → Option Route → Type 0
IsFewestWalk g s t (Some r) = IsLeastWalk g s t (Some r) × HasFewestArcs g s t r
IsFewestWalk g s t None = IsLeastLength g s t None

-- By a hierarchy

-- The cost is the value of the hierarchy, and the nodes are those of the arcs that a rise-fall walk of that cost
-- represents, fewer than there are nodes.
pub record IsUnfoldedRoute (h : Hierarchy) (s t : ℕ) (r : Route) : Type 0 where
  pub links : List Link
  pub arcs : List Link
  pub least : IsLeastRoute h s t r.cost links arcs
  pub few : length arcs ≤ length h.ranks - 1
  pub along : r.nodes ≡ s ∷ map (λ (l : Link). l.to) arcs

-- such a route, or none where the hierarchy has no value
abbrev pub IsRouteBy : Hierarchy → ℕ → ℕ → Option Route → Type 0
IsRouteBy h s t (Some r) = IsUnfoldedRoute h s t r
IsRouteBy h s t None = IsValue h s t None

-- a least rise-fall walk from s to t represents as many arcs as there are nodes, or more
pub record HasTooLong (h : Hierarchy) (s t : ℕ) : Type 0 where
  pub cost : Cost
  pub links : List Link
  pub arcs : List Link
  pub least : IsLeastRoute h s t cost links arcs
  pub many : length h.ranks - 1 < length arcs

-- the length of the value of the hierarchy, or none where it has none
pub record IsLengthBy (h : Hierarchy) (s t : ℕ) (n : Option ℕ) : Type 0 where
  pub value : Option Cost
  pub least : IsValue h s t value
  pub long : n ≡ option_map length_of value

-- In a row of lengths

-- a length, or the number that stands for none
abbrev pub or_none : Option ℕ → ℕ
or_none (Some n) = n
or_none None = NO_LENGTH

-- the length by the hierarchy, and in each graph that this is right for, be it by weight alone, the least over all walks
pub record IsRowLength (h : Hierarchy) (s t n : ℕ) : Type 0 where
  pub length : Option ℕ
  pub found : IsLengthBy h s t length
  pub exact : (g : Graph) → IsRight g h → IsLeastLength g s t length
  pub by_weight : (g : Graph) → IsRightByWeight g h → IsLeastLength g s t length
  pub written : n ≡ or_none length
