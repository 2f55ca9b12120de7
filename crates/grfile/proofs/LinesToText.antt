-- From what the lines of a text say to what the text says.
use Rattle.std.proofs.Common.{ℕ, ◌≡◌, List, Result, Ok, Err, refl, ap, sym, subst, ◌∙◌}
use Rattle.std.specs.Result.{IfOk}
use Rattle.ch_graph.specs.Graph.{Graph}
use Rattle.ch_graph.specs.declared.road.Road.{Road}
use Rattle.grfile.specs.declared.error.GrError.{GrError}
use Rattle.grfile.specs.declared.error.GrErrorKind.{GrErrorKind}
use Rattle.grfile.specs.declared.error.GrErrorKind.TheVariants.{OutOfMemory, Read, UnknownLine, NoProblemLine, SecondProblemLine, FieldCount, NotANumber, NodeRange, WeightTooBig, TooManyNodes, TooManyArcs, ArcCount}
use Rattle.text_lines.specs.Lines.{lines_of}
use Rattle.grfile.specs.Outcome.{◌>>=◌, FromText}
use Rattle.grfile.specs.Grammar.{Listing, listing_after}
use Rattle.grfile.specs.Roads.{graph_grammar}
use Rattle.grfile.specs.Pairs.{pair_grammar}
use Rattle.best_routes.specs.BestRoutes.{SpellsGraph, SpellsPairs}
use Rattle.grfile.specs.Reading.{graph_of, pairs_of, GraphsAreSpelledExactly, PairsAreSpelledExactly, SpelledGraphsAreInRange, SpelledPairsAreInRange}
use Rattle.grfile.proofs.SpelledTexts.{graph_read, graph_spelled, pairs_read, pairs_spelled}

pub from_text_map : (kind : GrErrorKind) {P Q : Type 0} → (P → Q) → FromText kind P → FromText kind Q
from_text_map OutOfMemory f p = tt
from_text_map Read f p = tt
from_text_map UnknownLine f p = f p
from_text_map NoProblemLine f p = f p
from_text_map SecondProblemLine f p = f p
from_text_map FieldCount f p = f p
from_text_map NotANumber f p = f p
from_text_map NodeRange f p = f p
from_text_map WeightTooBig f p = f p
from_text_map TooManyNodes f p = f p
from_text_map TooManyArcs f p = f p
from_text_map ArcCount f p = f p

-- From what a reader knows to what its text says

abbrev pub as_graph : Listing Road → Result Graph GrError
as_graph read = Ok (record { nodes = read.size.nodes; arcs = read.entries })

abbrev pub as_pairs : Listing (ℕ × ℕ) → Result (List (ℕ × ℕ)) GrError
as_pairs read = Ok read.entries

pub graph_seen : (text : List ℕ) → (listing_after graph_grammar 0 (lines_of text) >>= as_graph) ≡ graph_of text
unfolding graph_of
graph_seen text = refl

pub pairs_seen : (nodes : ℕ) (text : List ℕ) → (listing_after (pair_grammar nodes) 0 (lines_of text) >>= as_pairs) ≡ pairs_of nodes text
unfolding pairs_of
pairs_seen nodes text = refl

-- A text reads as what it spells, and as nothing else

listed_graph : (text : List ℕ) (r : Result (Listing Road) GrError) (g : Graph) → IfOk r (λ listing. SpellsGraph text (record { nodes = listing.size.nodes; arcs = listing.entries })) → (r >>= as_graph) ≡ Ok g → SpellsGraph text g
listed_graph text (Ok read) g h is =
    let same : record { nodes = read.size.nodes; arcs = read.entries } ≡ g = cc in
    subst (λ (g : Graph). SpellsGraph text g) same h
listed_graph text (Err e) g h is = absurd (cc)

pub graphs_exact : GraphsAreSpelledExactly
graphs_exact text g = (
  λ is. listed_graph text (listing_after graph_grammar 0 (lines_of text)) g (graph_spelled text) (graph_seen text ∙ is),
  λ spells. sym (graph_seen text) ∙ ap (λ r. r >>= as_graph) (graph_read text g spells),
)

pub graph_sound : SpelledGraphsAreInRange
graph_sound text g is = ((graphs_exact text g).0 is).limits

listed_pairs : (nodes : ℕ) (text : List ℕ) (r : Result (Listing (ℕ × ℕ)) GrError) (pairs : List (ℕ × ℕ)) → IfOk r (λ listing. SpellsPairs nodes text listing.entries) → (r >>= as_pairs) ≡ Ok pairs → SpellsPairs nodes text pairs
listed_pairs nodes text (Ok read) pairs h is =
    let same : read.entries ≡ pairs = cc in
    subst (λ (pairs : List (ℕ × ℕ)). SpellsPairs nodes text pairs) same h
listed_pairs nodes text (Err e) pairs h is = absurd (cc)

pub pairs_exact : PairsAreSpelledExactly
pairs_exact nodes text pairs = (
  λ is. listed_pairs nodes text (listing_after (pair_grammar nodes) 0 (lines_of text)) pairs (pairs_spelled nodes text) (pairs_seen nodes text ∙ is),
  λ spells. sym (pairs_seen nodes text) ∙ ap (λ r. r >>= as_pairs) (pairs_read nodes text pairs spells),
)

pub pairs_sound : SpelledPairsAreInRange
pairs_sound nodes text pairs is = ((pairs_exact nodes text pairs).0 is).within
