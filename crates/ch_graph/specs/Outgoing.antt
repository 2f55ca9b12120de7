-- The arcs of a graph by the node that they leave, as a list for each node that is linked from its last arc on.
use Rattle.std.specs.Prelude.{ℕ, ◌≡◌, ◌<◌, ◌≤◌, List, length, slice_index_or, Option, Some, None}
use Rattle.ch_graph.specs.declared.road.Road.{Road}
use Rattle.ch_graph.specs.Graph.{Graph}

-- the arc at a place of a list
abbrev pub road_at : List Road → ℕ → Road
road_at arcs k = slice_index_or arcs k (record { from = 0; to = 0; weight = 0 })

-- the place is this one or one after it
abbrev pub IsAtOrAfter : ℕ → Option ℕ → Type 0
IsAtOrAfter k None = ⊥
IsAtOrAfter k (Some j) = k ≤ j

-- the place of the last arc that leaves v among the first `count`, or none where none of them leaves it
pub record IsLastFrom (arcs : List Road) (v count : ℕ) (last : Option ℕ) : Type 0 where
  pub leaves : (j : ℕ) → last ≡ Some j → (j < count) × ((road_at arcs j).from ≡ v)
  pub latest : (k : ℕ) → k < count → (road_at arcs k).from ≡ v → IsAtOrAfter k last

-- For each node the last arc that leaves it, and for each arc the one before it that leaves the same node.
pub record IsLinked (g : Graph) (last before : List (Option ℕ)) : Type 0 where
  pub nodes : length last ≡ g.nodes
  pub arcs : length before ≡ length g.arcs
  pub lasts : (v : ℕ) → v < g.nodes → IsLastFrom g.arcs v (length g.arcs) (slice_index_or last v None)
  pub befores : (j : ℕ) → j < length g.arcs → IsLastFrom g.arcs (road_at g.arcs j).from j (slice_index_or before j None)
