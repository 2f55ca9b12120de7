-- What each call says where it refuses, by what the refusal comes of: which text is at fault, and what was written.
use Rattle.std.specs.Prelude.{ℕ, ◌≡◌, ⊤, List, [], length, Option, Some, option_map, true, false, IfSome, Result, Ok, Err, IfErr}
use Rattle.std.specs.Io.KnownBytes.{Keeps}
use Rattle.ch_graph.specs.Graph.{Graph}
use Rattle.ch_graph.specs.Hierarchy.{Hierarchy}
use Rattle.grfile.specs.Reading.{graph_of, pairs_of}
use Rattle.hierfile.specs.Fault.{first_fault}
use Rattle.ch_workers.specs.Options.{AreGood}
use Rattle.ch_workers.specs.declared.error.BuildError.TheVariants.{BadOptions}
use Rattle.ch_workers.specs.declared.options.Options.{Options}
use Rattle.outcomes.specs.Written.{IsEither, OfResource}
use Rattle.outcomes.specs.declared.cause.Cause.{Cause}
use Rattle.outcomes.specs.declared.cause.Cause.TheVariants.{Graph as GraphFault, Queries, Hierarchy as HierarchyFault, TooLong, Mixed}
use Rattle.outcomes.specs.declared.cause.Input.TheVariants as inputs
use Rattle.ch_service.specs.declared.error.ServiceError.{ServiceError}
use Rattle.ch_service.specs.declared.error.ServiceError.TheVariants.{Build}
use Rattle.ch_service.specs.Answer.{AnswersFirst, graph_part, pairs_part, Spells, Prepares, RoutesFirst, RoutesToTooLong}
use Rattle.ch_service.specs.Cause.{cause_of}
use Rattle.ch_service.specs.Outcome.{IfBothKnown, Writes, IsGraphText, AreTexts, StopsAnswering, StopsInJoined, StopsRouting}
use Rattle.ch_service.specs.Preparation.{StopsPreparing}

-- where pairs are answered from the texts of a graph and of pairs
abbrev pub RefusesAnswers : Option (List ℕ) → Option (List ℕ) → Option (List ℕ) → Option (List ℕ) → Cause → Type 0
RefusesAnswers graph pairs old new (GraphFault fault) = IfBothKnown graph pairs (λ graph_text pairs_text. graph_of graph_text ≡ Err fault) × Keeps old new
RefusesAnswers graph pairs old new (Queries fault) = IfBothKnown graph pairs (λ graph_text pairs_text. (g : Graph) × (graph_of graph_text ≡ Ok g) × (pairs_of g.nodes pairs_text ≡ Err fault)) × Keeps old new
RefusesAnswers graph pairs old new Mixed = IfBothKnown graph pairs AreTexts × Keeps old new
RefusesAnswers graph pairs old new cause = OfResource true (IsEither inputs.Graph inputs.Queries) graph pairs AnswersFirst old new cause

-- where a hierarchy is prepared from the text of a graph
abbrev pub RefusesPreparing : Option (List ℕ) → Option (List ℕ) → Option (List ℕ) → Cause → Type 0
RefusesPreparing graph old new (GraphFault fault) = IfSome graph (λ graph_text. graph_of graph_text ≡ Err fault) × Keeps old new
RefusesPreparing graph old new Mixed = IfSome graph IsGraphText × Keeps old new
RefusesPreparing graph old new cause = OfResource false (λ input. input ≡ inputs.Graph) graph (Some []) (λ graph_text none. Prepares graph_text) old new cause

-- where pairs are answered by the file of a hierarchy
abbrev pub RefusesRoutes : Option (List ℕ) → Option (List ℕ) → Option (List ℕ) → Option (List ℕ) → Cause → Type 0
RefusesRoutes file pairs old new (Queries fault) = IfBothKnown file pairs (λ bytes pairs_text. (h : Hierarchy) × Spells bytes h × (pairs_of (length h.ranks) pairs_text ≡ Err fault)) × Keeps old new
RefusesRoutes file pairs old new (HierarchyFault fault) = IfBothKnown file pairs (λ bytes pairs_text. first_fault bytes ≡ Some fault) × Keeps old new
RefusesRoutes file pairs old new TooLong = IfBothKnown file pairs (λ bytes pairs_text. Writes (RoutesToTooLong bytes pairs_text) old new)
RefusesRoutes file pairs old new cause = OfResource true (IsEither inputs.Hierarchy inputs.Queries) file pairs RoutesFirst old new cause

-- Why what the contracts say of a refusal shows this of its cause, unless bad options were refused.

abbrev pub AnswersTell : Type 0
AnswersTell = (o : Options) (lists : ℕ) (graph graph_left pairs pairs_left old new : Option (List ℕ)) (r : Result ⊤ ServiceError) → (r ≡ Err (Build BadOptions) → AreGood o lists) → IfErr r (StopsAnswering o lists graph graph_left pairs pairs_left old new) → IfErr r (λ e. RefusesAnswers graph pairs old new (cause_of e))

abbrev pub JoinedAnswersTell : Type 0
JoinedAnswersTell = (input left old new : Option (List ℕ)) (r : Result ⊤ ServiceError) → IfErr r (StopsInJoined input left old new) → IfErr r (λ e. RefusesAnswers (option_map graph_part input) (option_map pairs_part input) old new (cause_of e))

abbrev pub PreparationsTell : Type 0
PreparationsTell = (o : Options) (lists : ℕ) (graph left old new : Option (List ℕ)) (r : Result ⊤ ServiceError) → (r ≡ Err (Build BadOptions) → AreGood o lists) → IfErr r (StopsPreparing o lists graph left old new) → IfErr r (λ e. RefusesPreparing graph old new (cause_of e))

abbrev pub RoutesTell : Type 0
RoutesTell = (file pairs left old new : Option (List ℕ)) (r : Result ⊤ ServiceError) → IfErr r (StopsRouting file pairs left old new) → IfErr r (λ e. RefusesRoutes file pairs old new (cause_of e))
