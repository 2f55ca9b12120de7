-- Graphs within the limits of the product, why arcs make none, and the bound of what distances cost.
use Rattle.std.specs.Prelude.{ℕ, ◌≡◌, ◌-◌, ◌^◌, ◌<◌, ◌≤◌, List, [], ◌∷◌, length, Some, max, All, slice_index_or}
use Rattle.ch_cost.specs.declared.cost.Cost.{Cost}
use Rattle.ch_cost.specs.Cost.{cost_of_arcs, IsWeight, IsWithin}
use Rattle.ch_graph.specs.declared.error.GraphError.{GraphError}
use Rattle.ch_graph.specs.declared.error.GraphError.TheVariants.{TooManyNodes, TooManyArcs, BadArc}
use Rattle.ch_graph.specs.declared.road.Road.{Road}
use Rattle.ch_graph.specs.Graph.{Graph, IsDistance}
pub mod Laws

-- an arc between two of this many nodes, of a weight that is allowed
pub record IsRoad (nodes : ℕ) (r : Road) : Type 0 where
  pub from_in : r.from < nodes
  pub to_in : r.to < nodes
  pub weighs : IsWeight r.weight

-- a graph within the limits of the product
pub record IsGraph (g : Graph) : Type 0 where
  pub few_nodes : g.nodes ≤ 2 ^ 25
  pub few_arcs : length g.arcs ≤ 2 ^ 27
  pub roads : All (IsRoad g.nodes) g.arcs

-- the first of these arcs that isn't allowed between this many nodes is at this place
pub record IsFirstBad (nodes : ℕ) (arcs : List Road) (place : ℕ) : Type 0 where
  pub within : place < length arcs
  pub bad : (d : Road) → IsRoad nodes (slice_index_or arcs place d) → ⊥
  pub before : (k : ℕ) (d : Road) → k < place → IsRoad nodes (slice_index_or arcs k d)

-- why these arcs between this many nodes are no graph within the limits
abbrev pub IsGraphRefusal : ℕ → List Road → GraphError → Type 0
IsGraphRefusal nodes arcs TooManyNodes = 2 ^ 25 < nodes
IsGraphRefusal nodes arcs TooManyArcs = 2 ^ 27 < length arcs
IsGraphRefusal nodes arcs (BadArc place) = IsFirstBad nodes arcs place

-- the greatest weight of an arc, loops and parallel arcs included; 0 where there is none
abbrev pub heaviest : List Road → ℕ
heaviest [] = 0
heaviest (r ∷ rs) = max r.weight (heaviest rs)

-- what a walk that repeats no node costs at most
abbrev pub bound_of : Graph → Cost
bound_of g = cost_of_arcs (g.nodes - 1) (heaviest g.arcs)

-- every distance is within the bound
abbrev pub DistanceIsWithinBound : Type 0
DistanceIsWithinBound = (g : Graph) (s t : ℕ) (c : Cost) → IsGraph g → IsDistance g s t (Some c) → IsWithin c (bound_of g)
