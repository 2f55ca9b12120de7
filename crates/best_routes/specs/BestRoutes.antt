-- What is promised of answers, in plain words. `AreBestRoutes`, at the end, says it of three texts.
use Rattle.std.specs.Prelude.{ℕ, ◌≡◌, ◌+◌, ◌^◌, ◌==◌, ◌<◌, ◌≤◌, Bool, true, false, not, List, [], ◌∷◌, ◌++◌, length, map, filter, All, Contains, codes, decimal, Some}
use Rattle.std.specs.List.{AllZip, concat}
use Rattle.ch_graph.specs.declared.road.Road.{Road}
use Rattle.ch_graph.specs.Graph.{Graph}
use Rattle.ch_graph.specs.Limits.{IsGraph}
use Rattle.text_lines.specs.Fields.{fields_of}
use Rattle.text_lines.specs.Lines.{lines_of}
use Rattle.text_lines.specs.Numbers.{number_of}

-- Paths

-- the arcs lead from s to t: each is of the graph, and begins where the one before it ended; nodes may come again
abbrev pub IsPath : Graph → ℕ → ℕ → List Road → Type 0
IsPath g s t [] = s ≡ t
IsPath g s t (arc ∷ path) = Contains g.arcs arc × (arc.from ≡ s) × IsPath g arc.to t path

-- the sum of their weights
abbrev pub path_length : List Road → ℕ
path_length [] = 0
path_length (arc ∷ path) = arc.weight + path_length path

-- a shortest path, and of all shortest paths one with the fewest arcs
pub record IsBestPath (g : Graph) (s t : ℕ) (path : List Road) : Type 0 where
  pub leads : IsPath g s t path
  pub shortest : (other : List Road) → IsPath g s t other → path_length path ≤ path_length other
  pub fewest : (other : List Road) → IsPath g s t other → path_length other ≡ path_length path → length path ≤ length other

-- Texts. In them nodes are numbered from 1.

abbrev pub letter_c : ℕ
letter_c = 99

-- a line with these fields is neither blank nor a comment
abbrev pub is_counted : List (List ℕ) → Bool
is_counted [] = false
is_counted ([] ∷ fields) = true
is_counted ((b ∷ field) ∷ fields) = not (b == letter_c)

-- the fields of each line that counts
abbrev pub counted_lines : List ℕ → List (List (List ℕ))
counted_lines text = filter is_counted (map fields_of (lines_of text))

-- the fields are these words, and then others that spell these numbers
abbrev pub LineSays : List (List ℕ) × List ℕ → List (List ℕ) → Type 0
LineSays said fields = (others : List (List ℕ)) × (fields ≡ said.0 ++ others) × (map number_of others ≡ map Some said.1)

-- `p sp NODES ARCS`, and `a FROM TO WEIGHT` for each arc
abbrev pub graph_lines : Graph → List (List (List ℕ) × List ℕ)
graph_lines g = (codes "p" ∷ codes "sp" ∷ [], g.nodes ∷ length g.arcs ∷ []) ∷ map (λ (arc : Road). (codes "a" ∷ [], (arc.from + 1) ∷ (arc.to + 1) ∷ arc.weight ∷ [])) g.arcs

-- the text spells the graph, which is within the limits
pub record SpellsGraph (text : List ℕ) (g : Graph) : Type 0 where
  pub lines : AllZip LineSays (graph_lines g) (counted_lines text)
  pub limits : IsGraph g

-- two of this many nodes
abbrev pub IsPair : ℕ → ℕ × ℕ → Type 0
IsPair nodes pair = (pair.0 < nodes) × (pair.1 < nodes)

-- `p aux sp p2p PAIRS`, and `q FROM TO` for each pair
abbrev pub pair_lines : List (ℕ × ℕ) → List (List (List ℕ) × List ℕ)
pair_lines pairs = (codes "p" ∷ codes "aux" ∷ codes "sp" ∷ codes "p2p" ∷ [], length pairs ∷ []) ∷ map (λ (pair : ℕ × ℕ). (codes "q" ∷ [], (pair.0 + 1) ∷ (pair.1 + 1) ∷ [])) pairs

-- the text spells the pairs, not too many, of a graph with this many nodes
pub record SpellsPairs (nodes : ℕ) (text : List ℕ) (pairs : List (ℕ × ℕ)) : Type 0 where
  pub lines : AllZip LineSays (pair_lines pairs) (counted_lines text)
  pub few : length pairs ≤ 2 ^ 27
  pub within : All (IsPair nodes) pairs

-- a letter, and numbers with a space before each
abbrev pub numbers_line : List ℕ → List ℕ → List ℕ
numbers_line letter numbers = letter ++ concat (map (λ (n : ℕ). codes " " ++ decimal n) numbers) ++ codes "\n"

-- the line that answers a pair: `r FROM TO LENGTH ARCS NODE ..` of a best path, or `n FROM TO` where there is no path
pub data IsAnswerLine (g : Graph) (pair : ℕ × ℕ) : List ℕ → Type 0 where
  route : (path : List Road) → IsBestPath g pair.0 pair.1 path
      → IsAnswerLine g pair (numbers_line (codes "r") ((pair.0 + 1) ∷ (pair.1 + 1) ∷ path_length path ∷ length path ∷ (pair.0 + 1) ∷ map (λ (arc : Road). arc.to + 1) path))
  no_route : ((path : List Road) → IsPath g pair.0 pair.1 path → ⊥)
      → IsAnswerLine g pair (numbers_line (codes "n") ((pair.0 + 1) ∷ (pair.1 + 1) ∷ []))

-- the first text spells a graph and the second one pairs of its nodes; the third one is a line for each pair, in order
pub record AreBestRoutes (graph_text pairs_text text : List ℕ) : Type 0 where
  pub graph : Graph
  pub pairs : List (ℕ × ℕ)
  pub lines : List (List ℕ)
  pub spelled : SpellsGraph graph_text graph
  pub asked : SpellsPairs graph.nodes pairs_text pairs
  pub answered : AllZip (IsAnswerLine graph) pairs lines
  pub text_is : text ≡ concat lines
