-- What a check says of a text and a file, and what it says where it refuses.
use Rattle.std.specs.Prelude.{ℕ, ◌≡◌, ◌≢◌, ◌+◌, ⊤, List, ◌++◌, length, codes, decimal, Ok, ◌<◌, take, Option, Some, false, Err, IfSome}
use Rattle.ch_graph.specs.Graph.{Graph}
use Rattle.ch_graph.specs.Hierarchy.{Hierarchy, IsRight}
use Rattle.ch_graph.specs.Limits.{bound_of}
use Rattle.ch_graph.specs.declared.version.Version.{Version}
use Rattle.ch_graph.specs.declared.version.Version.TheVariants.{Two, One}
use Rattle.grfile.specs.Reading.{graph_of}
use Rattle.ch_answer.specs.File.{Spells, PreparesIn}
use Rattle.ch_check.specs.Refuting.{AreApart}
use Rattle.std.specs.Io.KnownBytes.{Appends, Keeps}
use Rattle.hierfile.specs.Fault.{first_fault}
use Rattle.outcomes.specs.declared.cause.Cause.{Cause}
use Rattle.outcomes.specs.declared.cause.Cause.TheVariants.{Graph as GraphFault, Hierarchy as HierarchyFault, OldVersion, Memory, Write}
use Rattle.outcomes.specs.declared.cause.Input.TheVariants as inputs
use Rattle.outcomes.specs.Written.{IsEither, OfResource, IfBothKnown}
use Rattle.ch_verify.specs.declared.verdict.FileVerdict.{FileVerdict}
use Rattle.ch_verify.specs.declared.verdict.FileVerdict.TheVariants.{Right, Wrong, NotShown}
use Rattle.ch_verify.specs.declared.verdict.Refutation.{Refutation}
use Rattle.ch_verify.specs.declared.verdict.Refutation.TheVariants.{Nodes, Pair}
use Rattle.ch_verify.specs.declared.verdict.Doubt.{Doubt}
use Rattle.ch_verify.specs.declared.verdict.Doubt.TheVariants.{Bound, Work, Way, Link}

-- What a check of a hierarchy's file against the text of a graph says, and how that is shown.

-- What a refutation names: the hierarchy has another number of nodes, or another distance of a pair.
abbrev pub Refutes : Refutation → Graph → Hierarchy → Type 0
Refutes Nodes g h = length h.ranks ≢ g.nodes
Refutes (Pair from to) g h = AreApart g h from to

-- What a doubt names of the two: of the bound, that it isn't the graph's. The others say where a check ended, or that it
-- took too much work, and nothing of the two.
abbrev pub Doubts : Doubt → Graph → Hierarchy → Type 0
Doubts Bound g h = h.bound ≢ bound_of g
Doubts Work g h = ⊤
Doubts (Way via from to) g h = ⊤
Doubts (Link from to) g h = ⊤

-- what a verdict says of a graph and a hierarchy: it is right for the graph, or it isn't, or neither
abbrev pub Judges : FileVerdict → Graph → Hierarchy → Type 0
Judges Right g h = IsRight g h
Judges (Wrong refutation) g h = (IsRight g h → ⊥) × Refutes refutation g h
Judges (NotShown doubt) g h = Doubts doubt g h

-- the text spells a graph and the bytes are the file of a hierarchy of this version, and this is so of the two
pub record AreOf (v : Version) (P : Graph → Hierarchy → Type 0) (graph_text bytes : List ℕ) : Type 0 where
  pub graph : Graph
  pub hierarchy : Hierarchy
  pub graph_reads : graph_of graph_text ≡ Ok graph
  pub version : hierarchy.version ≡ v
  pub fact : P graph hierarchy
  pub spells : Spells bytes hierarchy

-- the bytes are the file of a hierarchy that isn't right for the graph of the text, as this refutation shows
abbrev pub IsWrong : Refutation → List ℕ → List ℕ → Type 0
IsWrong refutation = AreOf Two (λ g h. (IsRight g h → ⊥) × Refutes refutation g h)

-- What a verdict says of the text of a graph and of bytes. They are the file of a hierarchy that is right for the graph, as
-- those that are prepared from the text; or the file of one that isn't, as the refutation shows; or both were read, and what the
-- doubt names is so.
abbrev pub Says : FileVerdict → List ℕ → List ℕ → Type 0
Says Right = PreparesIn Two
Says (Wrong refutation) = IsWrong refutation
Says (NotShown doubt) = AreOf Two (Doubts doubt)

-- how a verdict is shown, with nodes numbered from 1

abbrev pub refutation_text : Refutation → List ℕ
refutation_text Nodes = codes "nodes"
refutation_text (Pair from to) = codes "pair " ++ decimal (from + 1) ++ codes " " ++ decimal (to + 1)

abbrev pub doubt_text : Doubt → List ℕ
doubt_text Bound = codes "bound"
doubt_text Work = codes "work"
doubt_text (Way via from to) = codes "way " ++ decimal (from + 1) ++ codes " " ++ decimal (to + 1) ++ codes " by " ++ decimal (via + 1)
doubt_text (Link from to) = codes "link " ++ decimal (from + 1) ++ codes " " ++ decimal (to + 1)

abbrev pub verdict_text : FileVerdict → List ℕ
verdict_text Right = codes "right"
verdict_text (Wrong refutation) = codes "wrong: " ++ refutation_text refutation
verdict_text (NotShown doubt) = codes "not shown: " ++ doubt_text doubt

abbrev pub verdict_line : FileVerdict → List ℕ
verdict_line v = verdict_text v ++ codes "\n"

-- the line is that of a verdict that holds
abbrev pub IsVerdictLine : List ℕ → List ℕ → List ℕ → Type 0
IsVerdictLine graph_text bytes line = (v : FileVerdict) × Says v graph_text bytes × (line ≡ verdict_line v)

-- Why there is no verdict.

-- A fault of the text is the first that it has, and one of the bytes comes only where the text has none. A file of version
-- 1 is refused only where both were read. Nothing is written then, and where a write fails the first bytes of the line of a
-- verdict that holds.
abbrev pub RefusesCheck : Option (List ℕ) → Option (List ℕ) → Option (List ℕ) → Option (List ℕ) → Cause → Type 0
RefusesCheck graph file old new (GraphFault fault) = IfSome graph (λ graph_text. graph_of graph_text ≡ Err fault) × Keeps old new
RefusesCheck graph file old new (HierarchyFault e) = IfBothKnown graph file (λ graph_text bytes. (g : Graph) × (graph_of graph_text ≡ Ok g) × (first_fault bytes ≡ Some e)) × Keeps old new
RefusesCheck graph file old new OldVersion = IfBothKnown graph file (AreOf One (λ g h. ⊤)) × Keeps old new
RefusesCheck graph file old new cause = OfResource false (IsEither inputs.Graph inputs.Hierarchy) graph file IsVerdictLine old new cause

-- where the line of a verdict isn't written: nothing of it, or its first bytes, and not all
abbrev pub BreaksOff : FileVerdict → Option (List ℕ) → Option (List ℕ) → Cause → Type 0
BreaksOff v old new Memory = Keeps old new
BreaksOff v old new (Write fault) = (fault.written < length (verdict_line v)) × Appends old new (take fault.written (verdict_line v))
BreaksOff v old new cause = ⊥
