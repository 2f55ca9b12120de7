-- Why a turned hierarchy answers as the turned graph does, as statements.
use Rattle.std.specs.Prelude.{ℕ, ◌↔◌, AllPairs}
use Rattle.ch_cost.specs.declared.cost.Cost.{Cost}
use Rattle.ch_graph.specs.Walk.{Walk}
use Rattle.ch_graph.specs.Graph.{Graph, ArcOf}
use Rattle.ch_graph.specs.Limits.{IsGraph}
use Rattle.ch_graph.specs.Hierarchy.{Hierarchy, ComesBefore, IsRight, IsWellMade}
use Rattle.ch_laws.specs.ByWeight.{IsRightByWeight}
use Rattle.ch_turned.specs.Turned.{turned_graph, IsTurned}

-- a hierarchy that is right for a graph is, turned, right for the turned graph
abbrev pub TurnedIsRight : Type 0
TurnedIsRight = (g : Graph) (h t : Hierarchy) → IsTurned h t → IsRight g h → IsRight (turned_graph g) t

-- and so by weight
abbrev pub TurnedIsRightByWeight : Type 0
TurnedIsRightByWeight = (g : Graph) (h t : Hierarchy) → IsTurned h t → IsRightByWeight g h → IsRightByWeight (turned_graph g) t

-- one that is well made is so turned, where its links are in order
abbrev pub TurnedIsWellMade : Type 0
TurnedIsWellMade = (h t : Hierarchy) → IsTurned h t → AllPairs ComesBefore t.links → IsWellMade h → IsWellMade t

-- a graph within the limits of the product is so turned
abbrev pub TurnedIsGraph : Type 0
TurnedIsGraph = (g : Graph) → IsGraph g → IsGraph (turned_graph g)

-- a walk leads from one node to another exactly if one of the same cost leads back in the turned graph
abbrev pub WalksTurn : Type 0
WalksTurn = (g : Graph) (s t : ℕ) (c : Cost) → Walk (ArcOf (turned_graph g)) s t c ↔ Walk (ArcOf g) t s c
