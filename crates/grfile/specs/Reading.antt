-- The reading of a text: the graph, or the pairs, or the first fault, by cases on the list of its lines; and the laws on it.
use Rattle.std.specs.Prelude.{ℕ, ◌≡◌, ◌↔◌, List, All, Result, Ok}
use Rattle.ch_graph.specs.declared.road.Road.{Road}
use Rattle.ch_graph.specs.Graph.{Graph}
use Rattle.ch_graph.specs.Limits.{IsGraph}
use Rattle.grfile.specs.declared.error.GrError.{GrError}
use Rattle.text_lines.specs.Lines.{lines_of}
use Rattle.grfile.specs.Outcome.{◌>>=◌}
use Rattle.grfile.specs.Grammar.{Listing, listing_after}
use Rattle.grfile.specs.Roads.{graph_grammar}
use Rattle.grfile.specs.Pairs.{pair_grammar}
use Rattle.best_routes.specs.BestRoutes.{SpellsGraph, SpellsPairs}
pub use Rattle.best_routes.specs.BestRoutes.{IsPair}

-- the graph that a text spells, or the text's first fault
unfoldable pub graph_of : List ℕ → Result Graph GrError
graph_of text = listing_after graph_grammar 0 (lines_of text) >>= (λ (read : Listing Road). Ok (record { nodes = read.size.nodes; arcs = read.entries }))

-- the pairs of nodes that a text spells for a graph of this many nodes, or the text's first fault
unfoldable pub pairs_of : ℕ → List ℕ → Result (List (ℕ × ℕ)) GrError
pairs_of nodes text = listing_after (pair_grammar nodes) 0 (lines_of text) >>= (λ (read : Listing (ℕ × ℕ)). Ok read.entries)

-- a text reads as a graph exactly where it spells it: so no such text has a fault, and a text spells one graph at most
abbrev pub GraphsAreSpelledExactly : Type 0
GraphsAreSpelledExactly = (text : List ℕ) (g : Graph) → graph_of text ≡ Ok g ↔ SpellsGraph text g

-- and the same of pairs
abbrev pub PairsAreSpelledExactly : Type 0
PairsAreSpelledExactly = (nodes : ℕ) (text : List ℕ) (pairs : List (ℕ × ℕ)) → pairs_of nodes text ≡ Ok pairs ↔ SpellsPairs nodes text pairs

-- a graph that a text spells is within the limits
abbrev pub SpelledGraphsAreInRange : Type 0
SpelledGraphsAreInRange = (text : List ℕ) (g : Graph) → graph_of text ≡ Ok g → IsGraph g

-- and pairs that a text spells are pairs of nodes
abbrev pub SpelledPairsAreInRange : Type 0
SpelledPairsAreInRange = (nodes : ℕ) (text : List ℕ) (pairs : List (ℕ × ℕ)) → pairs_of nodes text ≡ Ok pairs → All (IsPair nodes) pairs
