-- Routes and the lines that answer, as paths say them.
use Rattle.std.specs.Prelude.{ℕ, ◌≡◌, ◌↔◌, List, ◌∷◌, Option, Some, None}
use Rattle.ch_cost.specs.Cost.{length_of}
use Rattle.ch_graph.specs.declared.road.Road.{Road}
use Rattle.ch_graph.specs.Graph.{Graph}
use Rattle.ch_route.specs.Routes.{Route, IsFewestWalk}
use Rattle.best_routes.specs.BestRoutes.{IsAnswerLine, IsBestPath, IsPath, path_length}
use Rattle.best_routes.specs.Walks.{ends_of}
use Rattle.ch_answer.specs.Line.{IsAnswer}

-- it has the length and the nodes of a best path; or there is no path
abbrev pub IsBestRoute : Graph → ℕ → ℕ → Option Route → Type 0
IsBestRoute g s t (Some r) = (path : List Road) × IsBestPath g s t path × (length_of r.cost ≡ path_length path) × (r.nodes ≡ s ∷ ends_of path)
IsBestRoute g s t None = (path : List Road) → IsPath g s t path → ⊥

-- a least walk with the fewest arcs is a best path, and a best path is such a walk
abbrev pub FewestWalksAreBestPaths : Type 0
FewestWalksAreBestPaths = (g : Graph) (s t : ℕ) (r : Option Route) → IsFewestWalk g s t r ↔ IsBestRoute g s t r

-- and so are the lines that state them
abbrev pub AnswersAreLines : Type 0
AnswersAreLines = (g : Graph) (pair : ℕ × ℕ) (line : List ℕ) → IsAnswer (IsFewestWalk g) pair line ↔ IsAnswerLine g pair line
