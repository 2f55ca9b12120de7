-- What the outcome of a job says, and its status.
use Rattle.std.specs.Prelude.{ℕ, ◌≡◌, ◌⊎◌, List, Option, Some, None, option_map, IfSome, MatchBool, Result, Ok, Err, ⊤}
use Rattle.std.specs.Io.KnownBytes.{Appends}
use Rattle.outcomes.specs.Outcomes.{Ends, status_after}
use Rattle.outcomes.specs.declared.cause.Cause.{Cause}
use Rattle.outcomes.specs.declared.cause.Cause.TheVariants as causes
use Rattle.outcomes.specs.declared.ending.Ending.{Ending}
use Rattle.outcomes.specs.declared.ending.Ending.TheVariants as outcomes
use Rattle.best_routes.specs.BestRoutes.{AreBestRoutes}
use Rattle.ch_service.specs.declared.error.ServiceError.{ServiceError}
use Rattle.ch_service.specs.Answer.{AnswersByFewest, graph_part, pairs_part, Prepares, Routes}
use Rattle.ch_service.specs.Cause.{cause_of}
use Rattle.ch_service.specs.Outcome.{IfBothKnown, IsGraphText, Writes}
use Rattle.ch_service.specs.Refusals.{RefusesAnswers, RefusesPreparing, RefusesRoutes}
use Rattle.ch_verify.specs.Verdict.{RefusesCheck, IsWrong, Says, verdict_line}
use Rattle.ch_verify.specs.declared.verdict.Doubt.{Doubt}
use Rattle.ch_verify.specs.declared.verdict.Refutation.{Refutation}
use Rattle.ch_verify.specs.declared.verdict.FileVerdict.{FileVerdict}
use Rattle.ch_verify.specs.declared.verdict.FileVerdict.TheVariants as verdicts
use Rattle.ch_renew.specs.Renewal.{Renews, TellsRenewed}
use Rattle.outcomes.specs.Info.{Informs, RefusesInfo}
use Rattle.jobs.specs.Job.{is_joined}
use Rattle.jobs.specs.declared.job.Job.{Job}
use Rattle.jobs.specs.declared.job.Job.TheVariants.{Answer, Prepare, Route, Info, Check, Renew}

-- after a call that prepares or answers
abbrev pub outcome_of : Result ⊤ ServiceError → Ending
outcome_of (Ok done) = outcomes.Done
outcome_of (Err e) = outcomes.Refused (cause_of e)

-- after a check that came to a verdict
abbrev pub ending_found : FileVerdict → Ending
ending_found verdicts.Right = outcomes.Done
ending_found (verdicts.Wrong refutation) = outcomes.Wrong
ending_found (verdicts.NotShown doubt) = outcomes.NotShown

-- What the outcome of an answering job says of the texts of the graph and the pairs, and of what was written.
abbrev pub TellsAnswers : Ending → Option (List ℕ) → Option (List ℕ) → Option (List ℕ) → Option (List ℕ) → Type 0
TellsAnswers outcome graph pairs old new = Ends outcome (IfBothKnown graph pairs (λ graph_text pairs_text. Writes (AnswersByFewest graph_text pairs_text) old new)) (RefusesAnswers graph pairs old new)

-- that of a preparing job, of the text of the graph
abbrev pub TellsPrepared : Ending → Option (List ℕ) → Option (List ℕ) → Option (List ℕ) → Type 0
TellsPrepared outcome graph old new = Ends outcome (IfSome graph (λ graph_text. Writes (Prepares graph_text) old new)) (RefusesPreparing graph old new)

-- the same of one whose file is put in its place, or can't be
abbrev pub TellsPut : Ending → Option (List ℕ) → Type 0
TellsPut (outcomes.Refused causes.Flush) graph = IfSome graph IsGraphText
TellsPut outcome graph = TellsPrepared outcome graph None None

-- And the same of one whose file can't be made, which shows before any work: a fault of the text is reported first.
abbrev pub TellsUnwritable : Ending → Option (List ℕ) → Type 0
TellsUnwritable (outcomes.Refused (causes.Write fault)) graph = IfSome graph IsGraphText
TellsUnwritable outcome graph = TellsPrepared outcome graph None None

-- that of a routing job, of the file of the hierarchy and the text of the pairs
abbrev pub TellsRouted : Ending → Option (List ℕ) → Option (List ℕ) → Option (List ℕ) → Option (List ℕ) → Type 0
TellsRouted outcome file pairs old new = Ends outcome (IfBothKnown file pairs (λ bytes pairs_text. Writes (Routes bytes pairs_text) old new)) (RefusesRoutes file pairs old new)

-- that of a job that prints what a hierarchy file has
abbrev pub TellsInfo : Ending → Option (List ℕ) → Option (List ℕ) → Option (List ℕ) → Type 0
TellsInfo outcome file old new = Ends outcome (IfSome file (λ bytes. Writes (Informs bytes) old new)) (RefusesInfo file old new)

-- And that of a checking job, of the text of the graph and the file of the hierarchy. Done: it is right for that graph.
-- Wrong: it isn't. These and NotShown come of a verdict, whose line is written.
pub record TellsChecked (outcome : Ending) (graph file old new : Option (List ℕ)) : Type 0 where
  pub right : outcome ≡ outcomes.Done → IfBothKnown graph file Prepares × Appends old new (verdict_line verdicts.Right)
  pub wrong : outcome ≡ outcomes.Wrong → (refutation : Refutation) × IfBothKnown graph file (IsWrong refutation) × Appends old new (verdict_line (verdicts.Wrong refutation))
  pub not_shown : outcome ≡ outcomes.NotShown → (doubt : Doubt) × IfBothKnown graph file (Says (verdicts.NotShown doubt)) × Appends old new (verdict_line (verdicts.NotShown doubt))
  pub refused : (cause : Cause) → outcome ≡ outcomes.Refused cause → RefusesCheck graph file old new cause

-- That of a job that makes a hierarchy by the ranks of another one is TellsRenewed. The same of one whose file is put in its place,
-- or can't be.
abbrev pub TellsRenewedPut : Ending → Option (List ℕ) → Option (List ℕ) → Type 0
TellsRenewedPut (outcomes.Refused causes.Flush) graph file = IfBothKnown graph file (λ graph_text bytes. (made : List ℕ) × Renews graph_text bytes made)
TellsRenewedPut outcome graph file = TellsRenewed outcome graph file None None

-- what that of any job says of what its two readers had, and of what was written
abbrev pub TellsOf : Job → Ending → Option (List ℕ) → Option (List ℕ) → Option (List ℕ) → Option (List ℕ) → Type 0
TellsOf (Answer graph queries) outcome first second old new =
    MatchBool (is_joined (Answer graph queries)) (TellsAnswers outcome (option_map graph_part first) (option_map pairs_part first) old new) (TellsAnswers outcome first second old new)
TellsOf (Prepare preparation) outcome first second old new = TellsPrepared outcome first old new
TellsOf (Route hierarchy queries) outcome first second old new = TellsRouted outcome first second old new
TellsOf (Info hierarchy) outcome first second old new = TellsInfo outcome first old new
TellsOf (Check check) outcome first second old new = TellsChecked outcome first second old new
TellsOf (Renew renewal) outcome first second old new = TellsRenewed outcome first second old new

pub record Tells (job : Job) (outcome : Ending) (first second old new : Option (List ℕ)) : Type 0 where
  pub of_job : TellsOf job outcome first second old new

-- there is an outcome of this status of which this holds
abbrev pub EndsWith : ℕ → (Ending → Type 0) → Type 0
EndsWith status Says = (outcome : Ending) × (status ≡ status_after outcome) × Says outcome

-- Where a file is this of the text of a graph, and routing by that file is done, what is written are best routes of that graph.
abbrev pub RoutesAreExactAfter : (List ℕ → List ℕ → Type 0) → Type 0
RoutesAreExactAfter IsFileOf = (graph_text bytes pairs_text : List ℕ) (old new : Option (List ℕ))
    → IsFileOf graph_text bytes
    → TellsRouted outcomes.Done (Some bytes) (Some pairs_text) old new
    → Writes (AreBestRoutes graph_text pairs_text) old new

-- a job that ended with status 0 is done
abbrev pub ZeroIsDone : Type 0
ZeroIsDone = (outcome : Ending) → 0 ≡ status_after outcome → outcome ≡ outcomes.Done

-- with which an answering job may end
abbrev pub IsAnsweringStatus : ℕ → Type 0
IsAnsweringStatus n = (n ≡ 0) ⊎ (n ≡ 3) ⊎ (n ≡ 5) ⊎ (n ≡ 6) ⊎ (n ≡ 7) ⊎ (n ≡ 8)

-- a preparing one
abbrev pub IsPreparingStatus : ℕ → Type 0
IsPreparingStatus n = (n ≡ 0) ⊎ (n ≡ 3) ⊎ (n ≡ 6) ⊎ (n ≡ 7) ⊎ (n ≡ 8)

-- a routing one
abbrev pub IsRoutingStatus : ℕ → Type 0
IsRoutingStatus n = (n ≡ 0) ⊎ (n ≡ 4) ⊎ (n ≡ 5) ⊎ (n ≡ 6) ⊎ (n ≡ 7)

-- one that prints what a hierarchy file has
abbrev pub IsInformingStatus : ℕ → Type 0
IsInformingStatus n = (n ≡ 0) ⊎ (n ≡ 4) ⊎ (n ≡ 6) ⊎ (n ≡ 7)

-- a checking one
abbrev pub IsCheckingStatus : ℕ → Type 0
IsCheckingStatus n = (n ≡ 0) ⊎ (n ≡ 3) ⊎ (n ≡ 4) ⊎ (n ≡ 6) ⊎ (n ≡ 7) ⊎ (n ≡ 9) ⊎ (n ≡ 10)

-- and one that makes a hierarchy by the ranks of another one
abbrev pub IsRenewingStatus : ℕ → Type 0
IsRenewingStatus n = (n ≡ 0) ⊎ (n ≡ 3) ⊎ (n ≡ 4) ⊎ (n ≡ 6) ⊎ (n ≡ 7) ⊎ (n ≡ 9)

-- the status is one of those of the job
abbrev pub IsStatusOf : Job → ℕ → Type 0
IsStatusOf (Answer graph queries) = IsAnsweringStatus
IsStatusOf (Prepare preparation) = IsPreparingStatus
IsStatusOf (Route hierarchy queries) = IsRoutingStatus
IsStatusOf (Info hierarchy) = IsInformingStatus
IsStatusOf (Check check) = IsCheckingStatus
IsStatusOf (Renew renewal) = IsRenewingStatus

-- What is at a destination after a hierarchy was prepared for it.

-- It is the file of a hierarchy that is right for the graph of the text, whole and nothing else, if the reader shows the
-- text and the destination shows what was there before.
abbrev pub HasPrepared : Option (List ℕ) → Option (Option (List ℕ)) → Option (Option (List ℕ)) → Type 0
HasPrepared graph old new = IfSome graph (λ graph_text. IfSome old (λ before. (bytes : List ℕ) × Prepares graph_text bytes × (new ≡ Some (Some bytes))))

-- the same of one that was made by the ranks of a file, whatever that is
abbrev pub HasRenewed : Option (List ℕ) → Option (List ℕ) → Option (Option (List ℕ)) → Option (Option (List ℕ)) → Type 0
HasRenewed graph file old new = IfBothKnown graph file (λ graph_text bytes. IfSome old (λ before. (made : List ℕ) × Renews graph_text bytes made × (new ≡ Some (Some made))))
