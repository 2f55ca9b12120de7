-- What is said of a hierarchy that was made by the ranks of another one.
use Rattle.std.proofs.Common.{ℕ, ◌≡◌, ◌≢◌, List, length, Option, Some, Ok, Err, inl, inr, refl, true, false, ◌<◌, take}
use Rattle.std.specs.Prelude.{IfSome, Bool, Result, IfOk, IfErr, IsTrue, IsFalse, ⊤}
use Rattle.std.specs.Io.KnownBytes.{Appends, Keeps}
use Rattle.std.proofs.lemmas.Option.{IfSome_then}
use Rattle.ch_graph.specs.Graph.{Graph}
use Rattle.ch_graph.specs.Hierarchy.{Hierarchy, IsRight, IsWellMade}
use Rattle.ch_graph.specs.declared.version.Version.TheVariants.{Two}
use Rattle.counted_io.specs.declared.writing.WriteFault.{WriteFault}
use Rattle.grfile.specs.Outcome.{FromText}
use Rattle.grfile.specs.Reading.{graph_of}
use Rattle.grfile.specs.declared.error.GrError.{GrError}
use Rattle.hierfile.specs.Bytes.{IsFaultOf, Took}
use Rattle.hierfile.specs.Fault.{first_fault}
use Rattle.hierfile.specs.Spelling.{bytes_of}
use Rattle.hierfile.specs.declared.error.HierError.{HierError}
use Rattle.outcomes.specs.Causes.{text_case, file_case, of_graph, of_hierarchy}
use Rattle.outcomes.specs.Written.{both_known, IfBothKnown, Writes, WritesFirst}
use Rattle.outcomes.specs.declared.cause.Cause.TheVariants as causes
use Rattle.outcomes.specs.declared.cause.Input.TheVariants as inputs
use Rattle.ch_renew.specs.Renewal.{HaveOtherNodes, RefusesRenewing, Renews}

-- a graph's text and the file of a hierarchy that were read
pub record AreRead (g : Graph) (h : Hierarchy) (graph file : Option (List ℕ)) : Type 0 where
  pub reads : IfSome graph (λ text. graph_of text ≡ Ok g)
  pub spelled : IfSome file (λ bytes. bytes ≡ bytes_of h)
  pub made : IsWellMade h

-- a hierarchy that is right for the graph and has the ranks of the other
pub record IsNew (g : Graph) (old new : Hierarchy) : Type 0 where
  pub version : new.version ≡ Two
  pub right : IsRight g new
  pub ranks : new.ranks ≡ old.ranks
  pub made : IsWellMade new

module _ {g : Graph} {old : Hierarchy} (graph file : Option (List ℕ)) (read : AreRead g old graph file) where
  renews : {new : Hierarchy} {text bytes : List ℕ} → IsNew g old new → graph_of text ≡ Ok g → bytes ≡ bytes_of old → Renews text bytes (bytes_of new)
  renews {new} is reads spelled = record {
    graph = g;
    old = old;
    new = new;
    graph_reads = reads;
    old_spells = record { made = read.made; spelled = spelled };
    version = is.version;
    right = is.right;
    ranks = is.ranks;
    spells = record { made = is.made; spelled = refl };
  }

  -- its file was written
  pub writes : {new : Hierarchy} (before after : Option (List ℕ)) → IsNew g old new → Appends before after (bytes_of new) → IfBothKnown graph file (λ text bytes. Writes (Renews text bytes) before after)
  writes {new} before after is given = both_known graph file read.reads read.spelled (λ text bytes reads spelled. (bytes_of new, renews is reads spelled, given))

  -- or its first bytes were
  pub breaks : {new : Hierarchy} (before after : Option (List ℕ)) (fault : WriteFault) → IsNew g old new → Took before after fault.written (bytes_of new) → RefusesRenewing graph file before after (causes.Write fault)
  breaks {new} before after fault is took = both_known graph file read.reads read.spelled (λ text bytes reads spelled. (bytes_of new, renews is reads spelled, took.0, took.1))

  -- there are other nodes
  pub others : length old.ranks ≢ g.nodes → IfBothKnown graph file HaveOtherNodes
  others other = both_known graph file read.reads read.spelled (λ text bytes reads spelled. record { graph = g; old = old; graph_reads = reads; old_spells = record { made = read.made; spelled = spelled }; other = other })

-- the file was refused
pub file_refused : (e : HierError) (g : Graph) (graph file old new : Option (List ℕ)) → IfSome graph (λ text. graph_of text ≡ Ok g) → IsFaultOf first_fault file e → Keeps old new → RefusesRenewing graph file old new (of_hierarchy e)
file_refused e g graph file old new reads fault keeps =
    file_case e (RefusesRenewing graph file old new) keeps (inr refl, keeps) (λ own. (both_known graph file reads (own (IfSome file (λ bytes. first_fault bytes ≡ Some e)) fault) (λ text bytes is fault. (g, is, fault)), keeps))

-- the text was
pub text_refused : (fault : GrError) (graph file old new : Option (List ℕ)) → IfSome graph (λ text. FromText fault.kind (graph_of text ≡ Err fault)) → Keeps old new → RefusesRenewing graph file old new (of_graph fault)
text_refused fault graph file old new told keeps =
    text_case fault.kind inputs.Graph (causes.Graph fault) (RefusesRenewing graph file old new) keeps (inl refl, keeps) (λ own. (IfSome_then graph told (λ text. own (graph_of text ≡ Err fault)), keeps))
