-- What a call has done where it refuses.
use Rattle.std.specs.Prelude.{ℕ, ◌≡◌, ◌≢◌, ◌⊎◌, ◌↔◌, ⊤, List, Option, option_map, IfSome, Ok, Err, length}
use Rattle.std.specs.Io.KnownBytes.{IsAtEnd, Keeps}
pub use Rattle.outcomes.specs.Written.{IfBothKnown, Writes, WritesFirst}
use Rattle.ch_graph.specs.Graph.{Graph}
use Rattle.ch_graph.specs.Hierarchy.{Hierarchy}
use Rattle.grfile.specs.Outcome.{FromText, next_line}
use Rattle.grfile.specs.Reading.{graph_of, pairs_of}
use Rattle.text_lines.specs.Lines.{line_feeds}
use Rattle.grfile.specs.Taken.{StopsAtReached}
use Rattle.grfile.specs.declared.error.GrError.{GrError}
use Rattle.grfile.specs.declared.error.GrErrorKind.{GrErrorKind}
use Rattle.grfile.specs.declared.error.GrErrorKind.TheVariants.{Read}
use Rattle.hierfile.specs.Bytes.{SaysNothing, IsFaultOf}
use Rattle.ch_unpack.specs.declared.error.UnpackError.TheVariants as unpacking
use Rattle.ch_workers.specs.Options.{AreBad, AreGood}
use Rattle.ch_workers.specs.declared.error.BuildError.TheVariants.{BadOptions}
use Rattle.ch_workers.specs.declared.options.Options.{Options}
use Rattle.ch_workers.specs.declared.options.TheConstants.Options.{PLAIN}
use Rattle.hierfile.specs.Fault.{first_fault}
use Rattle.ch_service.specs.declared.error.ServiceError.{ServiceError}
use Rattle.ch_service.specs.declared.error.ServiceError.TheVariants.{Graph as GraphFault, Queries, Hierarchy as HierarchyFault, Build, Unpack, Write, OutOfMemory}
use Rattle.ch_service.specs.Answer.{AnswersFirst, graph_part, pairs_part, HasTooLong, Spells, RoutesFirst, RoutesToTooLong}

-- What an answering call has done where it refuses.

-- the text spells a graph
abbrev pub IsGraphText : List ℕ → Type 0
IsGraphText graph_text = (g : Graph) × (graph_of graph_text ≡ Ok g)

-- and the second text pairs of its nodes
abbrev pub AreTexts : List ℕ → List ℕ → Type 0
AreTexts graph_text pairs_text = (g : Graph) × (graph_of graph_text ≡ Ok g) × ((pairs : List (ℕ × ℕ)) × (pairs_of g.nodes pairs_text ≡ Ok pairs))

-- By the options and the number of lists; of the texts of the graph and of the pairs, of what their readers have left, and of
-- what the writer had before and has now. A fault of a text is its first, and has the line that was reached; one of the pairs
-- comes only where the graph has none. The build is refused only where both are read. Nothing is written then. Each other
-- refusal comes behind the build: behind the answers to the first pairs, or behind the first bytes of such answers, where a
-- write fails. No route over a graph is too long.
module _ (o : Options) (lists : ℕ) (graph graph_left pairs pairs_left old new : Option (List ℕ)) where
  abbrev pub StopsAnswering : ServiceError → Type 0
  StopsAnswering (GraphFault fault) = IfSome graph (λ text. FromText fault.kind (graph_of text ≡ Err fault)) × StopsAtReached graph graph_left fault × Keeps old new
  StopsAnswering (Queries fault) = IfBothKnown graph pairs (λ graph_text pairs_text. (g : Graph) × (graph_of graph_text ≡ Ok g) × FromText fault.kind (pairs_of g.nodes pairs_text ≡ Err fault)) × StopsAtReached pairs pairs_left fault × Keeps old new
  StopsAnswering (Build e) = ((e ≡ BadOptions) ↔ AreBad o lists) × IfBothKnown graph pairs AreTexts × Keeps old new
  StopsAnswering (Unpack unpacking.OutOfMemory) = AreGood o lists × IfBothKnown graph pairs (λ graph_text pairs_text. Writes (AnswersFirst graph_text pairs_text) old new)
  StopsAnswering (Write fault) = AreGood o lists × IfBothKnown graph pairs (λ graph_text pairs_text. WritesFirst (AnswersFirst graph_text pairs_text) old new fault.written)
  StopsAnswering OutOfMemory = AreGood o lists × IfBothKnown graph pairs (λ graph_text pairs_text. AreTexts graph_text pairs_text × (Keeps old new ⊎ Writes (AnswersFirst graph_text pairs_text) old new))
  StopsAnswering e = ⊥

-- A whole input wasn't read: a read failed, which is a fault of the graph's text, of the line that was reached; or memory ran
-- out.
abbrev pub StopsReading : Option (List ℕ) → Option (List ℕ) → ServiceError → Type 0
StopsReading had left (GraphFault fault) = (fault.kind ≡ Read) × StopsAtReached had left fault
StopsReading had left OutOfMemory = ⊤
StopsReading had left e = ⊥

-- it comes of no failed read
abbrev pub IsNoRead : ServiceError → Type 0
IsNoRead (GraphFault fault) = fault.kind ≢ Read
IsNoRead (Queries fault) = fault.kind ≢ Read
IsNoRead e = ⊤

-- Where both texts are in one input, which is read first: it wasn't read, and nothing is written; or it was, to its end, and its
-- two parts were refused as such texts are.
abbrev pub StopsInJoined : (input left old new : Option (List ℕ)) → ServiceError → Type 0
StopsInJoined input left old new e = (StopsReading input left e × Keeps old new) ⊎ (IsNoRead e × IsAtEnd left
    × ((graph_left : Option (List ℕ)) × (pairs_left : Option (List ℕ)) × StopsAnswering PLAIN 0 (option_map graph_part input) graph_left (option_map pairs_part input) pairs_left old new e))

-- Where a hierarchy is prepared and pairs are answered by its file, both in memory. The file has no fault, so it is
-- refused only where memory runs out or a read fails, and no route is too long.
module _ (o : Options) (lists : ℕ) (graph_text pairs_text : List ℕ) where
  abbrev pub StopsInMemory : ServiceError → Type 0
  StopsInMemory (GraphFault fault) = FromText fault.kind (graph_of graph_text ≡ Err fault)
  StopsInMemory (Queries fault) = (g : Graph) × (graph_of graph_text ≡ Ok g) × FromText fault.kind (pairs_of g.nodes pairs_text ≡ Err fault)
  StopsInMemory (HierarchyFault e) = IsGraphText graph_text × SaysNothing e
  StopsInMemory (Build e) = ((e ≡ BadOptions) ↔ AreBad o lists) × IsGraphText graph_text
  StopsInMemory (Unpack unpacking.OutOfMemory) = AreTexts graph_text pairs_text
  StopsInMemory (Unpack unpacking.TooLong) = ⊥
  StopsInMemory (Write fault) = IsGraphText graph_text
  StopsInMemory OutOfMemory = AreTexts graph_text pairs_text

-- a read that failed behind these bytes, at one more than their line feeds
abbrev pub IsReadFault : List ℕ → GrError → Type 0
IsReadFault bytes fault = fault ≡ record { kind = Read; line = next_line (line_feeds bytes) }

-- the read that failed behind these bytes, or the refusal itself, by the kind of its fault
abbrev pub of_fault : List ℕ → GrErrorKind → ServiceError → ServiceError
of_fault text Read own = GraphFault (record { kind = Read; line = next_line (line_feeds text) })
of_fault text kind own = own

-- The refusal of texts that were read from these bytes of one whole input: a failed read would be one behind them.
abbrev pub of_whole : List ℕ → ServiceError → ServiceError
of_whole text (GraphFault fault) = of_fault text fault.kind (GraphFault fault)
of_whole text (Queries fault) = of_fault text fault.kind (Queries fault)
of_whole text e = e

-- Where pairs are answered by a hierarchy and a write fails, the writer took the first `written` bytes of a text of the first
-- kind. Where memory runs out, it took a whole text of this kind, or nothing at all, and where a route is too long, a whole
-- text of the second kind. No other refusal comes.
abbrev pub StopsShort : (List ℕ → Type 0) → (List ℕ → Type 0) → Option (List ℕ) → Option (List ℕ) → ServiceError → Type 0
StopsShort P Q old new (Unpack unpacking.OutOfMemory) = Writes P old new
StopsShort P Q old new (Unpack unpacking.TooLong) = Writes Q old new
StopsShort P Q old new (Write fault) = WritesFirst P old new fault.written
StopsShort P Q old new OutOfMemory = Keeps old new ⊎ Writes P old new
StopsShort P Q old new e = ⊥

-- the refusals that come while a pair is answered: a route is too long only where it is that pair's
abbrev pub IsPairFault : Hierarchy → ℕ × ℕ → ServiceError → Type 0
IsPairFault h pair (Unpack unpacking.OutOfMemory) = ⊤
IsPairFault h pair (Unpack unpacking.TooLong) = HasTooLong h pair.0 pair.1
IsPairFault h pair OutOfMemory = ⊤
IsPairFault h pair e = ⊥

-- What a call says where it refuses to answer pairs by the file of a hierarchy.

-- the bytes are the file of a hierarchy, and the text spells pairs of its nodes
abbrev pub AreRoutingTexts : List ℕ → List ℕ → Type 0
AreRoutingTexts bytes pairs_text = (h : Hierarchy) × Spells bytes h × ((pairs : List (ℕ × ℕ)) × (pairs_of (length h.ranks) pairs_text ≡ Ok pairs))

-- Of the file and the pairs that its readers had, of what the second has left, and of what the writer had before and has now.
-- A fault of the file is its first. One of the pairs comes only where the file has none, and has the line that was reached.
-- Nothing is written then. Each other refusal comes only where both are read: behind the lines of the pairs before, or behind
-- the first bytes of such lines, where a write fails.
abbrev pub StopsRouting : (file pairs left old new : Option (List ℕ)) → ServiceError → Type 0
StopsRouting file pairs left old new (HierarchyFault e) = IsFaultOf first_fault file e × Keeps old new
StopsRouting file pairs left old new (Queries fault) = IfBothKnown file pairs (λ bytes pairs_text. (h : Hierarchy) × Spells bytes h × FromText fault.kind (pairs_of (length h.ranks) pairs_text ≡ Err fault)) × StopsAtReached pairs left fault × Keeps old new
StopsRouting file pairs left old new (Unpack unpacking.OutOfMemory) = IfBothKnown file pairs (λ bytes pairs_text. Writes (RoutesFirst bytes pairs_text) old new)
StopsRouting file pairs left old new (Unpack unpacking.TooLong) = IfBothKnown file pairs (λ bytes pairs_text. Writes (RoutesToTooLong bytes pairs_text) old new)
StopsRouting file pairs left old new (Write fault) = IfBothKnown file pairs (λ bytes pairs_text. WritesFirst (RoutesFirst bytes pairs_text) old new fault.written)
StopsRouting file pairs left old new OutOfMemory = IfBothKnown file pairs (λ bytes pairs_text. AreRoutingTexts bytes pairs_text × (Keeps old new ⊎ Writes (RoutesFirst bytes pairs_text) old new))
StopsRouting file pairs left old new e = ⊥
