-- What a list of nodes costs, by the least arc between each two of them.
use Rattle.std.specs.Prelude.{ℕ, ◌<◌, List, All}
use Rattle.ch_cost.specs.declared.cost.Cost.{Cost}
use Rattle.ch_graph.specs.Walk.{IsLeast, Along}
use Rattle.ch_graph.specs.Graph.{Graph, ArcOf}

-- the least arc of the graph from x to y costs c
abbrev pub IsLeastArc : Graph → ℕ → ℕ → Cost → Type 0
IsLeastArc g x y = IsLeast (ArcOf g x y)

-- The list isn't empty, each two nodes that follow each other have an arc, and the least such arcs cost c together.
abbrev pub LeastArcsCost : Graph → List ℕ → Cost → Type 0
LeastArcsCost g nodes c = (x : ℕ) × (z : ℕ) × Along (IsLeastArc g) nodes x z c

-- and the nodes are in range
abbrev pub IsWalkThrough : Graph → List ℕ → Cost → Type 0
IsWalkThrough g nodes c = All (λ x. x < g.nodes) nodes × LeastArcsCost g nodes c
