-- Paths as walks, of which other contracts speak: a walk has its cost, where a path has its arcs.
use Rattle.std.specs.Prelude.{ℕ, ◌≡◌, List, map}
use Rattle.ch_cost.specs.declared.cost.Cost.{Cost}
use Rattle.ch_cost.specs.Cost.{length_of}
use Rattle.ch_graph.specs.declared.road.Road.{Road}
use Rattle.ch_graph.specs.Graph.{Graph, ArcOf}
use Rattle.ch_graph.specs.Walk.{Walk, visited}
use Rattle.best_routes.specs.BestRoutes.{IsPath, path_length}

-- the nodes that a path comes to after its first
abbrev pub ends_of : List Road → List ℕ
ends_of path = map (λ (arc : Road). arc.to) path

-- a walk goes along the path
pub record IsAlong (g : Graph) (s t : ℕ) (path : List Road) : Type 0 where
  pub cost : Cost
  pub walk : Walk (ArcOf g) s t cost
  pub long : length_of cost ≡ path_length path
  pub comes_to : visited walk ≡ ends_of path

abbrev pub PathsAreWalks : Type 0
PathsAreWalks = (g : Graph) (s t : ℕ) (path : List Road) → IsPath g s t path → IsAlong g s t path

-- a path goes along the walk
pub record IsTraced (g : Graph) (s t : ℕ) (cost : Cost) (walk : Walk (ArcOf g) s t cost) : Type 0 where
  pub path : List Road
  pub leads : IsPath g s t path
  pub long : length_of cost ≡ path_length path
  pub comes_to : visited walk ≡ ends_of path

abbrev pub WalksArePaths : Type 0
WalksArePaths = (g : Graph) (s t : ℕ) (cost : Cost) (walk : Walk (ArcOf g) s t cost) → IsTraced g s t cost walk
