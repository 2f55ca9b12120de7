-- What a call says that makes the hierarchy of a graph by the ranks of another hierarchy.
use Rattle.std.specs.Prelude.{ℕ, ◌≡◌, ◌≢◌, List, length, Option, Some, false, Ok, Err, IfSome}
use Rattle.std.specs.Io.KnownBytes.{Keeps}
use Rattle.ch_graph.specs.Graph.{Graph}
use Rattle.ch_graph.specs.Hierarchy.{Hierarchy, IsRight}
use Rattle.ch_graph.specs.declared.version.Version.TheVariants.{Two}
use Rattle.grfile.specs.Reading.{graph_of}
use Rattle.hierfile.specs.Fault.{first_fault}
use Rattle.ch_answer.specs.File.{Spells}
use Rattle.outcomes.specs.Written.{IfBothKnown, IsEither, OfResource, Writes}
use Rattle.outcomes.specs.declared.cause.Cause.{Cause}
use Rattle.outcomes.specs.declared.cause.Cause.TheVariants.{Graph as GraphFault, Hierarchy as HierarchyFault}
use Rattle.outcomes.specs.declared.cause.Input.TheVariants as inputs
use Rattle.outcomes.specs.declared.ending.Ending.{Ending}
use Rattle.outcomes.specs.declared.ending.Ending.TheVariants as outcomes

-- The text spells a graph and the bytes are the file of a hierarchy. The other bytes are the file of a hierarchy that is right
-- for the graph and has the same ranks.
pub record Renews (graph_text bytes made : List ℕ) : Type 0 where
  pub graph : Graph
  pub old : Hierarchy
  pub new : Hierarchy
  pub graph_reads : graph_of graph_text ≡ Ok graph
  pub old_spells : Spells bytes old
  pub version : new.version ≡ Two
  pub right : IsRight graph new
  pub ranks : new.ranks ≡ old.ranks
  pub spells : Spells made new

-- the text spells a graph and the bytes are the file of a hierarchy of another number of nodes
pub record HaveOtherNodes (graph_text bytes : List ℕ) : Type 0 where
  pub graph : Graph
  pub old : Hierarchy
  pub graph_reads : graph_of graph_text ≡ Ok graph
  pub old_spells : Spells bytes old
  pub other : length old.ranks ≢ graph.nodes

-- What a refusal says by its cause, of the graph's text, of the file, and of what the writer had before and has now. A fault of the
-- file comes only where the text is read.
abbrev pub RefusesRenewing : Option (List ℕ) → Option (List ℕ) → Option (List ℕ) → Option (List ℕ) → Cause → Type 0
RefusesRenewing graph file old new (GraphFault fault) = IfSome graph (λ graph_text. graph_of graph_text ≡ Err fault) × Keeps old new
RefusesRenewing graph file old new (HierarchyFault e) = IfBothKnown graph file (λ graph_text bytes. (g : Graph) × (graph_of graph_text ≡ Ok g) × (first_fault bytes ≡ Some e)) × Keeps old new
RefusesRenewing graph file old new cause = OfResource false (IsEither inputs.Graph inputs.Hierarchy) graph file Renews old new cause

-- The same by an outcome. Done: the file was written. Wrong: the two have other numbers of nodes, and nothing was written.
pub record TellsRenewed (outcome : Ending) (graph file old new : Option (List ℕ)) : Type 0 where
  pub done : outcome ≡ outcomes.Done → IfBothKnown graph file (λ graph_text bytes. Writes (Renews graph_text bytes) old new)
  pub wrong : outcome ≡ outcomes.Wrong → IfBothKnown graph file HaveOtherNodes × Keeps old new
  pub shown : outcome ≢ outcomes.NotShown
  pub refused : (cause : Cause) → outcome ≡ outcomes.Refused cause → RefusesRenewing graph file old new cause
