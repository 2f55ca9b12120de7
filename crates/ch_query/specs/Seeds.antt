-- Where a query begins and where it ends: nodes with costs that are added, and the least walk from some start to some end.
use Rattle.std.specs.Prelude.{ℕ, ◌≡◌, ◌^◌, ◌<◌, ◌≤◌, List, length, Option, Some, All, Contains, slice_get}
use Rattle.ch_cost.specs.declared.cost.Cost.{Cost}
use Rattle.ch_cost.specs.Cost.{◌⊕◌, of_walk, length_of, arcs_of, IsNoLonger}
use Rattle.ch_graph.specs.declared.link.Link.{Link}
use Rattle.ch_graph.specs.declared.hierarchy.LinkId.{LinkId}
use Rattle.ch_graph.specs.Walk.{IsLeastOrNone}
use Rattle.ch_graph.specs.Graph.{Graph, IsDistance}
use Rattle.ch_graph.specs.Hierarchy.{Hierarchy, IsRiseFall, IsRight, rank_of}
use Rattle.ch_graph.specs.Unfolding.{Joined}
use Rattle.ch_query.specs.declared.seed.Seed.{Seed}
use Rattle.ch_query.specs.Places.{IsRiseFallAt}
pub mod Laws

-- a node of the hierarchy, with a cost that is no longer than a walk may be and has few arcs
pub record IsSeed (h : Hierarchy) (seed : Seed) : Type 0 where
  pub node_in : seed.node < length h.ranks
  pub length : length_of seed.cost ≤ 2 ^ 57
  pub arcs : arcs_of seed.cost ≤ 2 ^ 25

abbrev pub AreSeeds : Hierarchy → List Seed → Type 0
AreSeeds h seeds = All (IsSeed h) seeds

-- one of the seeds is at the node of rank r and costs c
pub record IsSeedAt (h : Hierarchy) (seeds : List Seed) (r : ℕ) (c : Cost) : Type 0 where
  pub seed : Seed
  pub among : Contains seeds seed
  pub rank : rank_of h seed.node ≡ r
  pub cost : seed.cost ≡ c

-- what a start, a way and an end cost together
abbrev pub cost_between : Seed → Cost → Seed → Cost
cost_between start way stop = (start.cost ⊕ way) ⊕ stop.cost

-- A rise-fall walk leads from one of the starts to one of the ends; the three cost c together, which is no longer than the
-- bound.
pub record HasWalkBetween (h : Hierarchy) (starts ends : List Seed) (bound c : Cost) : Type 0 where
  pub start : Seed
  pub stop : Seed
  pub begins : Contains starts start
  pub stops : Contains ends stop
  pub links : List Link
  pub way : Cost
  pub leads : IsRiseFall h links start.node stop.node way
  pub sum : c ≡ cost_between start way stop
  pub short : IsNoLonger c bound

-- the least that such a walk costs with its start and its end, or none where there is none
abbrev pub IsValueBetween : Hierarchy → List Seed → List Seed → Cost → Option Cost → Type 0
IsValueBetween h starts ends bound = IsLeastOrNone (HasWalkBetween h starts ends bound)

-- the greatest length that a start, a way and an end may have together: no walk of a graph is cut off by it
abbrev pub longest : Cost
longest = of_walk (2 ^ 62) 0

-- The links at these places join, and are a rise-fall walk from the start at one place of its list to the end at a place
-- of the other; the three cost c together.
pub record IsWalkBetween (h : Hierarchy) (starts ends : List Seed) (from to : ℕ) (places : List LinkId) (c : Cost) : Type 0 where
  pub start : Seed
  pub stop : Seed
  pub begins : slice_get starts from ≡ Some start
  pub stops : slice_get ends to ≡ Some stop
  pub way : Cost
  pub leads : IsRiseFallAt h places start.node stop.node way
  pub joined : Joined h start.node places
  pub sum : c ≡ cost_between start way stop

-- and in each graph that the hierarchy is right for what the links cost is the distance from that start to that end
pub record IsLeastWalkBetween (h : Hierarchy) (starts ends : List Seed) (from to : ℕ) (places : List LinkId) (c : Cost) : Type 0 where
  pub walk : IsWalkBetween h starts ends from to places c
  pub distance : (g : Graph) → IsRight g h → IsDistance g walk.start.node walk.stop.node (Some walk.way)

-- one of the starts, one of the ends and the distance from that to this in a graph cost c together
pub record HasPair (g : Graph) (starts ends : List Seed) (c : Cost) : Type 0 where
  pub start : Seed
  pub stop : Seed
  pub begins : Contains starts start
  pub stops : Contains ends stop
  pub way : Cost
  pub distance : IsDistance g start.node stop.node (Some way)
  pub sum : c ≡ cost_between start way stop

-- the least of these over all pairs of a start and an end, or none where no pair has a walk
abbrev pub IsDistanceBetween : Graph → List Seed → List Seed → Option Cost → Type 0
IsDistanceBetween g starts ends = IsLeastOrNone (HasPair g starts ends)
