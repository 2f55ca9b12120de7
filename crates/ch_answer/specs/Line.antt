-- The line that answers a pair of nodes.
use Rattle.std.specs.Prelude.{ℕ, ◌≡◌, ◌+◌, ◌-◌, List, [], ◌∷◌, ◌++◌, length, map, codes, decimal, Option, Some, None}
use Rattle.std.specs.List.{concat}
use Rattle.ch_cost.specs.Cost.{length_of}
use Rattle.ch_route.specs.Routes.{Route}

-- nodes as a text names them, numbered from 1, a space before each
abbrev pub named : List ℕ → List ℕ
named nodes = concat (map (λ (n : ℕ). codes " " ++ decimal (n + 1)) nodes)

-- a length, how many arcs there are from node to node, and the nodes
abbrev pub route_fields : ℕ → List ℕ → List ℕ
route_fields n nodes = codes " " ++ decimal n ++ codes " " ++ decimal (length nodes - 1) ++ named nodes

-- what a line says of a route: its length, how many arcs it has, and its nodes
abbrev pub told : Route → List ℕ
told r = route_fields (length_of r.cost) r.nodes

-- the line of a pair and its route, or that there is none
abbrev pub line_of : ℕ × ℕ → Option Route → List ℕ
line_of pair (Some r) = codes "r" ++ named (pair.0 ∷ pair.1 ∷ []) ++ told r ++ codes "\n"
line_of pair None = codes "n" ++ named (pair.0 ∷ pair.1 ∷ []) ++ codes "\n"

-- the line answers the pair: it gives a route from the first node to the second, of the kind that is asked for
pub record IsAnswer (IsRoute : ℕ → ℕ → Option Route → Type 0) (pair : ℕ × ℕ) (line : List ℕ) : Type 0 where
  pub route : Option Route
  pub leads : IsRoute pair.0 pair.1 route
  pub tells : line ≡ line_of pair route
