-- Directed graphs with weights, and distance. Its limits are in `Limits`.
use Rattle.std.specs.Prelude.{ℕ, ◌≡◌, ◌≤◌, List, Contains, Option, Some, None}
use Rattle.ch_cost.specs.declared.cost.Cost.{Cost}
use Rattle.ch_cost.specs.Cost.{of_weight, length_of}
use Rattle.ch_graph.specs.declared.road.Road.{Road}
use Rattle.ch_graph.specs.Walk.{Walk, Along, IsLeastOrNone}

-- the nodes are the numbers below `nodes`
pub record Graph : Type 0 where
  pub nodes : ℕ
  pub arcs : List Road

-- an arc of the graph from x to y costs c
pub record ArcOf (g : Graph) (x y : ℕ) (c : Cost) : Type 0 where
  pub road : Road
  pub among : Contains g.arcs road
  pub from : road.from ≡ x
  pub to : road.to ≡ y
  pub costs : of_weight road.weight ≡ c

-- the least length over all walks from s to t, which some walk has, or none where there is no walk
abbrev pub IsLeastLength : Graph → ℕ → ℕ → Option ℕ → Type 0
IsLeastLength g s t (Some n) = (c : Cost) × Walk (ArcOf g) s t c × (length_of c ≡ n) × ((d : Cost) → Walk (ArcOf g) s t d → n ≤ length_of d)
IsLeastLength g s t None = (c : Cost) → Walk (ArcOf g) s t c → ⊥

-- the length of c is the least over all walks of the graph, and some walk of exactly that length goes along the nodes
abbrev pub IsShortest : Graph → List ℕ → ℕ → ℕ → Cost → Type 0
IsShortest g nodes s t c = IsLeastLength g s t (Some (length_of c)) × ((d : Cost) × Along (ArcOf g) nodes s t d × (length_of d ≡ length_of c))

-- the least cost over all walks from s to t, or none where there is no walk
abbrev pub IsDistance : Graph → ℕ → ℕ → Option Cost → Type 0
IsDistance g s t = IsLeastOrNone (Walk (ArcOf g) s t)
