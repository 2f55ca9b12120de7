-- Hierarchies that answer as a graph does by lengths alone, the sums of the weights. For those of version 1, whose costs
-- count no arcs, this is what "right" can say.
use Rattle.std.specs.Prelude.{ℕ, ◌≡◌, ◌-◌, ◌<◌, ◌≤◌, List, ◌∷◌, length, Option, Some, option_map, map, Contains}
use Rattle.ch_cost.specs.declared.cost.Cost.{Cost}
use Rattle.ch_cost.specs.Cost.{length_of}
use Rattle.ch_graph.specs.declared.link.Link.{Link}
use Rattle.ch_graph.specs.declared.version.Version.TheVariants.{One}
use Rattle.ch_graph.specs.Graph.{Graph, ArcOf, IsLeastLength, IsShortest}
use Rattle.ch_graph.specs.Limits.{IsGraph}
use Rattle.ch_graph.specs.Hierarchy.{Hierarchy, Chain, IsValue, Unfolds, IsWellMade, IsRight}
use Rattle.ch_laws.specs.Theorems.{IsLeastRoute}

-- the graph has an arc with the link's ends and length
pub record IsArcByWeight (g : Graph) (l : Link) : Type 0 where
  pub cost : Cost
  pub arc : ArcOf g l.from l.to cost
  pub weighs : length_of cost ≡ length_of l.cost

-- The hierarchy answers as the graph does by lengths: each of its values has the least length, and each link represents
-- arcs of the graph that lead from its one end to the other and are together as long as it is.
pub record IsRightByWeight (g : Graph) (h : Hierarchy) : Type 0 where
  pub nodes : length h.ranks ≡ g.nodes
  pub value : (s t : ℕ) (c : Option Cost) → s < g.nodes → t < g.nodes → IsValue h s t c → IsLeastLength g s t (option_map length_of c)
  pub unfolds : (l : Link) → Contains h.links l → (arcs : List Link) × Unfolds h l arcs
  pub unfolded : (l : Link) (arcs : List Link) → Contains h.links l → Unfolds h l arcs → Chain (IsArcByWeight g) arcs l.from l.to l.cost

-- a right hierarchy is right by weight
abbrev pub RightIsRightByWeight : Type 0
RightIsRightByWeight = (g : Graph) (h : Hierarchy) → IsRight g h → IsRightByWeight g h

-- the nodes that a least rise-fall walk comes to are those of a walk of the least length
abbrev pub RouteIsShortest : Type 0
RouteIsShortest = (g : Graph) (h : Hierarchy) (s t : ℕ) (c : Cost) (links arcs : List Link) → IsRightByWeight g h → s < g.nodes → t < g.nodes → IsLeastRoute h s t c links arcs → IsShortest g (s ∷ map (λ l. l.to) arcs) s t c

-- and in version 1, where each link weighs something, it has fewer arcs than there are nodes
abbrev pub NeverTooLongByWeight : Type 0
NeverTooLongByWeight = (g : Graph) (h : Hierarchy) (s t : ℕ) (c : Cost) (links arcs : List Link) → IsGraph g → IsRightByWeight g h → h.version ≡ One → IsWellMade h → s < g.nodes → t < g.nodes → IsLeastRoute h s t c links arcs → length arcs ≤ g.nodes - 1
