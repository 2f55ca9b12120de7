-- Answers to pairs of nodes: of texts, by the file of a hierarchy, and of two texts in one.
use Rattle.std.specs.Prelude.{ℕ, ◌≡◌, List, [], ◌∷◌, ◌++◌, take, Option, Ok, length, All, ◌==◌, ◌||◌, Bool, if◌then◌else◌, codes}
use Rattle.ch_graph.specs.Graph.{Graph}
pub use Rattle.ch_route.specs.Routes.{Route, IsLeastWalk, HasFewestArcs, IsFewestWalk, IsUnfoldedRoute, IsRouteBy, HasTooLong}
pub use Rattle.ch_answer.specs.Line.{named, told, line_of, IsAnswer}
use Rattle.grfile.specs.Reading.{graph_of, pairs_of, IsPair}
use Rattle.ch_graph.specs.Limits.{IsGraph}
use Rattle.ch_graph.specs.declared.version.Version.{Version}
use Rattle.ch_graph.specs.declared.version.Version.TheVariants.{Two}
use Rattle.ch_graph.specs.Hierarchy.{Hierarchy}
pub use Rattle.ch_answer.specs.File.{Spells, IsRightIn, PreparesIn}
use Rattle.std.specs.List.{concat, onto_first}
use Rattle.std.specs.Str.{bytes_eq}
use Rattle.text_lines.specs.Letters.{line_feed}

-- Answered texts: one line for each pair of nodes, in their order.

-- the text has one answer for each pair, in order, and nothing else
pub data AreAnswers (IsRoute : ℕ → ℕ → Option Route → Type 0) : List (ℕ × ℕ) → List ℕ → Type 0 where
  nothing : AreAnswers IsRoute [] []
  one_more : {pair : ℕ × ℕ} {pairs : List (ℕ × ℕ)} {line rest : List ℕ} → IsAnswer IsRoute pair line → AreAnswers IsRoute pairs rest → AreAnswers IsRoute (pair ∷ pairs) (line ++ rest)

-- answers by least walks of a graph
abbrev pub Answered : Graph → List (ℕ × ℕ) → List ℕ → Type 0
Answered g = AreAnswers (IsLeastWalk g)

-- the text answers all pairs of the second text over the graph of the first, by routes of a kind
pub record AnswersBy (IsRoute : Graph → ℕ → ℕ → Option Route → Type 0) (graph_text pairs_text text : List ℕ) : Type 0 where
  pub graph : Graph
  pub pairs : List (ℕ × ℕ)
  pub graph_reads : graph_of graph_text ≡ Ok graph
  pub pairs_read : pairs_of graph.nodes pairs_text ≡ Ok pairs
  pub answered : AreAnswers (IsRoute graph) pairs text

-- by least walks
abbrev pub Answers : List ℕ → List ℕ → List ℕ → Type 0
Answers = AnswersBy IsLeastWalk

-- and by least walks with the fewest arcs
abbrev pub AnswersByFewest : List ℕ → List ℕ → List ℕ → Type 0
AnswersByFewest = AnswersBy IsFewestWalk

-- the text answers the first of them, as many as `count` says, and no others
pub record AnswersFirst (graph_text pairs_text text : List ℕ) : Type 0 where
  pub graph : Graph
  pub pairs : List (ℕ × ℕ)
  pub graph_reads : graph_of graph_text ≡ Ok graph
  pub pairs_read : pairs_of graph.nodes pairs_text ≡ Ok pairs
  pub count : ℕ
  pub answered : Answered graph (take count pairs) text

-- Hierarchies as they are written, and answers by them.

-- of version 2, as files are written
abbrev pub Prepares : List ℕ → List ℕ → Type 0
Prepares = PreparesIn Two

-- the text answers the pairs by routes of the hierarchy
abbrev pub Routed : Hierarchy → List (ℕ × ℕ) → List ℕ → Type 0
Routed h = AreAnswers (IsRouteBy h)

-- the text answers the first of the pairs, and the route of the next one is too long
pub record StopsAtTooLong (h : Hierarchy) (pairs : List (ℕ × ℕ)) (text : List ℕ) : Type 0 where
  pub first : List (ℕ × ℕ)
  pub pair : ℕ × ℕ
  pub rest : List (ℕ × ℕ)
  pub parts : pairs ≡ first ++ pair ∷ rest
  pub routed : Routed h first text
  pub too_long : HasTooLong h pair.0 pair.1

-- the bytes are the file of a hierarchy, by which the text answers all pairs of the second text
pub record Routes (bytes pairs_text text : List ℕ) : Type 0 where
  pub hierarchy : Hierarchy
  pub pairs : List (ℕ × ℕ)
  pub spells : Spells bytes hierarchy
  pub pairs_read : pairs_of (length hierarchy.ranks) pairs_text ≡ Ok pairs
  pub routed : Routed hierarchy pairs text

-- it answers the first of them, as many as `count` says, and no others
pub record RoutesFirst (bytes pairs_text text : List ℕ) : Type 0 where
  pub hierarchy : Hierarchy
  pub pairs : List (ℕ × ℕ)
  pub spells : Spells bytes hierarchy
  pub pairs_read : pairs_of (length hierarchy.ranks) pairs_text ≡ Ok pairs
  pub count : ℕ
  pub routed : Routed hierarchy (take count pairs) text

-- it answers the first of them, and the route of the next one is too long
pub record RoutesToTooLong (bytes pairs_text text : List ℕ) : Type 0 where
  pub hierarchy : Hierarchy
  pub pairs : List (ℕ × ℕ)
  pub spells : Spells bytes hierarchy
  pub pairs_read : pairs_of (length hierarchy.ranks) pairs_text ≡ Ok pairs
  pub stops : StopsAtTooLong hierarchy pairs text

-- Routes of a hierarchy that is right for a graph, in the sense of this version, are least walks of that graph.
abbrev pub RightRoutesAreLeast : Version → Type 0
RightRoutesAreLeast v = (g : Graph) (h : Hierarchy) (pairs : List (ℕ × ℕ)) (text : List ℕ) → IsGraph g → IsRightIn v g h → All (IsPair g.nodes) pairs → Routed h pairs text → Answered g pairs text

-- Where the bytes were prepared from the text of a graph, in this version, routes by these bytes are answers over that
-- graph, by routes of this kind.
abbrev pub RoutesAre : (Graph → ℕ → ℕ → Option Route → Type 0) → Version → Type 0
RoutesAre IsRoute v = (graph_text bytes pairs_text text : List ℕ) → PreparesIn v graph_text bytes → Routes bytes pairs_text text → AnswersBy IsRoute graph_text pairs_text text

-- By a file of either version routes are exact: each line gives the least length over all walks and the nodes along a walk
-- of that length, or that there is no walk.
abbrev pub RoutesAreExact : Version → Type 0
RoutesAreExact = RoutesAre IsLeastWalk

-- and so are the first of them
abbrev pub FirstRoutesAreExact : Version → Type 0
FirstRoutesAreExact v = (graph_text bytes pairs_text text : List ℕ) → PreparesIn v graph_text bytes → RoutesFirst bytes pairs_text text → AnswersFirst graph_text pairs_text text

-- By a file of version 2 each route is of all least walks one with the fewest arcs.
abbrev pub RoutesHaveFewestArcs : Type 0
RoutesHaveFewestArcs = RoutesAre IsFewestWalk Two

-- One input that holds a graph's text, a line that is the single byte %, and the text of the queries.

-- the lines of an input, each with its line feed; the last has none where the input doesn't end with one
abbrev pub ended_lines : List ℕ → List (List ℕ)
ended_lines [] = []
ended_lines (b ∷ input) = if b == line_feed then (b ∷ []) ∷ ended_lines input else onto_first b (ended_lines input)

-- the line is the single byte %, with or without a carriage return and a line feed behind it
abbrev pub is_percent : List ℕ → Bool
is_percent line = bytes_eq line (codes "%") || bytes_eq line (codes "%\r") || bytes_eq line (codes "%\n") || bytes_eq line (codes "%\r\n")

-- the lines before the first that is %, and those behind it
abbrev pub parted : List (List ℕ) → List (List ℕ) × List (List ℕ)
parted [] = ([], [])
parted (line ∷ lines) = if is_percent line then ([], lines) else (line ∷ (parted lines).0, (parted lines).1)

-- the text of the graph and that of the pairs
abbrev pub graph_part : List ℕ → List ℕ
graph_part input = concat (parted (ended_lines input)).0

abbrev pub pairs_part : List ℕ → List ℕ
pairs_part input = concat (parted (ended_lines input)).1
