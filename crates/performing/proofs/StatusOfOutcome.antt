-- What the outcome of a job says, and its status.
use Rattle.std.proofs.Common.{ℕ, ◌≡◌, List, Option, Bool, true, false, sym, subst, inl, refl, inr, [], ap, ◌∙◌}
use Rattle.std.specs.Prelude.{⊤, Some, None, option_map, MatchBool, Result, Ok, Err, OnOk, IfErr, IfSome, IsErrAnd, ◌⊎◌}
use Rattle.std.specs.Io.KnownBytes.{Appends, Keeps}
use Rattle.std.proofs.lemmas.Option.{IfSome_then}
use Rattle.outcomes.specs.Outcomes.{Ends, ending_after, status_after}
use Rattle.outcomes.specs.Written.{all_known, known_then}
use Rattle.outcomes.specs.declared.cause.Cause.{Cause}
use Rattle.outcomes.specs.declared.cause.Cause.TheVariants as causes
use Rattle.outcomes.specs.declared.ending.Ending.{Ending}
use Rattle.outcomes.specs.declared.ending.Ending.TheVariants.{Done, Refused, Wrong, NotShown}
use Rattle.ch_service.specs.declared.error.ServiceError.{ServiceError}
use Rattle.ch_service.specs.declared.error.ServiceError.TheVariants.{OutOfMemory}
use Rattle.ch_service.specs.Answer.{AnswersByFewest, graph_part, pairs_part, Prepares, RoutesHaveFewestArcs}
use Rattle.ch_service.specs.BestRoutes.{AnswersAreBestRoutes}
use Rattle.ch_service.specs.Cause.{cause_of}
use Rattle.ch_service.specs.Outcome.{IfBothKnown, Writes, IsGraphText}
use Rattle.ch_service.specs.Refusals.{RefusesAnswers, RefusesPreparing, RefusesRoutes}
use Rattle.ch_verify.specs.Verdict.{RefusesCheck, Says, verdict_line}
use Rattle.ch_verify.specs.declared.verdict.FileVerdict.{FileVerdict}
use Rattle.ch_verify.specs.declared.verdict.FileVerdict.TheVariants as verdicts
use Rattle.ch_renew.specs.Renewal.{RefusesRenewing, Renews, TellsRenewed}
use Rattle.jobs.specs.Job.{is_joined}
use Rattle.jobs.specs.declared.job.Job.{Job}
use Rattle.jobs.specs.declared.job.Job.TheVariants.{Answer, Prepare, Route, Info, Check, Renew}
use Rattle.outcomes.specs.Info.{RefusesInfo}
use Rattle.performing.specs.Status.{outcome_of, ending_found, Tells, TellsAnswers, TellsChecked, TellsPrepared, TellsRouted, TellsInfo, IsAnsweringStatus, IsPreparingStatus, IsRoutingStatus, IsInformingStatus, IsCheckingStatus, IsStatusOf, TellsPut, RoutesAreExactAfter, HasPrepared, HasRenewed, IsRenewingStatus, TellsRenewedPut, ZeroIsDone}

-- What a call says by its outcome.

-- what is done, or refused

pub is_done : (IsDone : Type 0) (Refuses : Cause → Type 0) → IsDone → Ends Done IsDone Refuses
is_done IsDone Refuses done = record { done = λ is. done; refused = λ cause is. absurd (cc); no_verdict = (λ is. absurd (cc), λ is. absurd (cc)) }

pub is_refused : {why : Cause} (IsDone : Type 0) (Refuses : Cause → Type 0) → Refuses why → Ends (Refused why) IsDone Refuses
is_refused {why} IsDone Refuses refused = record {
  done = λ is. absurd (cc);
  refused = λ cause is. let same : why ≡ cause = cc in subst Refuses same refused;
  no_verdict = (λ is. absurd (cc), λ is. absurd (cc));
}

-- what a call has done, or why it didn't
pub told : (r : Result ⊤ ServiceError) (IsDone : Type 0) (Refuses : Cause → Type 0) → OnOk r IsDone → IfErr r (λ e. Refuses (cause_of e)) → Ends (outcome_of r) IsDone Refuses
told (Ok x) IsDone Refuses done refused = is_done IsDone Refuses done
told (Err e) IsDone Refuses done refused = is_refused IsDone Refuses refused

pub told_after : (r : Result ⊤ Cause) (IsDone : Type 0) (Refuses : Cause → Type 0) → OnOk r IsDone → IfErr r Refuses → Ends (ending_after r) IsDone Refuses
told_after (Ok x) IsDone Refuses done refused = is_done IsDone Refuses done
told_after (Err cause) IsDone Refuses done refused = is_refused IsDone Refuses refused

-- the same of an outcome that is that after the call
pub after : {outcome ended : Ending} {IsDone : Type 0} {Refuses : Cause → Type 0} → outcome ≡ ended → Ends ended IsDone Refuses → Ends outcome IsDone Refuses
after {IsDone = IsDone} {Refuses = Refuses} is ends = subst (λ (o : Ending). Ends o IsDone Refuses) (sym is) ends

-- where memory ran out before the call
pub wants_memory : (r : Result ⊤ ServiceError) (IsDone : Type 0) (Refuses : Cause → Type 0) → IsErrAnd r (λ e. e ≡ OutOfMemory) → Refuses causes.Memory → Ends (outcome_of r) IsDone Refuses
wants_memory (Ok x) IsDone Refuses is memory = absurd is
wants_memory (Err e) IsDone Refuses is memory = is_refused IsDone Refuses (subst (λ (x : ServiceError). Refuses (cause_of x)) (sym is) memory)

pub unwritten : (graph pairs old new : Option (List ℕ)) → Keeps old new → RefusesAnswers graph pairs old new causes.Memory
unwritten graph pairs old new k = all_known graph pairs (λ a b. inl k)

-- where both texts are in one input
pub joined_told : (input old new : Option (List ℕ)) (r : Result ⊤ ServiceError) → OnOk r (IfSome input (λ text. Writes (AnswersByFewest (graph_part text) (pairs_part text)) old new))
    → IfErr r (λ e. RefusesAnswers (option_map graph_part input) (option_map pairs_part input) old new (cause_of e)) → TellsAnswers (outcome_of r) (option_map graph_part input) (option_map pairs_part input) old new
joined_told None old new (Ok x) w f = is_done _ _ tt
joined_told None old new (Err e) w f = is_refused _ _ f
joined_told (Some text) old new (Ok x) w f = is_done _ _ w
joined_told (Some text) old new (Err e) w f = is_refused _ _ f

-- a check that came to a verdict
pub found : (v : FileVerdict) {outcome : Ending} (graph file old new : Option (List ℕ)) → outcome ≡ ending_found v → IfBothKnown graph file (Says v) → Appends old new (verdict_line v) → TellsChecked outcome graph file old new
found verdicts.Right graph file old new is says given = record {
  right = λ same. (says, given);
  wrong = λ same. absurd (cc);
  not_shown = λ same. absurd (cc);
  refused = λ cause same. absurd (cc);
}
found (verdicts.Wrong refutation) graph file old new is says given = record {
  right = λ same. absurd (cc);
  wrong = λ same. (refutation, says, given);
  not_shown = λ same. absurd (cc);
  refused = λ cause same. absurd (cc);
}
found (verdicts.NotShown doubt) graph file old new is says given = record {
  right = λ same. absurd (cc);
  wrong = λ same. absurd (cc);
  not_shown = λ same. (doubt, says, given);
  refused = λ cause same. absurd (cc);
}

-- and one that was refused
pub unchecked : (why : Cause) (graph file old new : Option (List ℕ)) → RefusesCheck graph file old new why → TellsChecked (Refused why) graph file old new
unchecked why graph file old new refused = record {
  right = λ same. absurd (cc);
  wrong = λ same. absurd (cc);
  not_shown = λ same. absurd (cc);
  refused = λ cause is. let same : why ≡ cause = cc in subst (RefusesCheck graph file old new) same refused;
}

-- a job that answers, by whether its texts are in one input

pub of_joined : (j : Job) (o : Ending) (first second old new : Option (List ℕ)) → is_joined j ≡ true → TellsAnswers o (option_map graph_part first) (option_map pairs_part first) old new → Tells j o first second old new
of_joined (Answer graph queries) o first second old new is t = record {
  of_job = subst (λ (b : Bool). MatchBool b (TellsAnswers o (option_map graph_part first) (option_map pairs_part first) old new) (TellsAnswers o first second old new)) (sym is) t;
}
of_joined j o first second old new is t = absurd (cc)

pub of_two : {j : Job} (graph queries : _) (o : Ending) (first second old new : Option (List ℕ)) → j ≡ Answer graph queries → is_joined j ≡ false → TellsAnswers o first second old new → Tells j o first second old new
of_two {j = Answer a b} graph queries o first second old new is apart t = record {
  of_job = subst (λ (b : Bool). MatchBool b (TellsAnswers o (option_map graph_part first) (option_map pairs_part first) old new) (TellsAnswers o first second old new)) (sym apart) t;
}
of_two graph queries o first second old new is apart t = absurd (cc)

-- Which statuses a job may end with, and that nothing was written where the workers don't agree.

abbrev pub EndsBy : (ℕ → Type 0) → Option (List ℕ) → Option (List ℕ) → Ending → Type 0
EndsBy Is old new outcome = Is (status_after outcome) × (status_after outcome ≡ 8 → Keeps old new)

-- what ends so with status 0, and so for each cause of its refusals
module _ {IsDone : Type 0} {Refuses : Cause → Type 0} (Is : ℕ → Type 0) (old new : Option (List ℕ)) (done : Is 0) (refused : (cause : Cause) → Refuses cause → EndsBy Is old new (Refused cause)) where
  ending : (outcome : Ending) → Ends outcome IsDone Refuses → EndsBy Is old new outcome
  ending Done t = (done, λ is. absurd (cc))
  ending Wrong t = absurd (t.no_verdict.0 refl)
  ending NotShown t = absurd (t.no_verdict.1 refl)
  ending (Refused cause) t = refused cause (t.refused cause refl)

-- where pairs are answered over a graph
pub answering_end : (outcome : Ending) (graph pairs old new : Option (List ℕ)) → TellsAnswers outcome graph pairs old new → EndsBy IsAnsweringStatus old new outcome
answering_end outcome graph pairs old new = ending IsAnsweringStatus old new (inl refl) by_cause outcome where
  by_cause : (cause : Cause) → RefusesAnswers graph pairs old new cause → EndsBy IsAnsweringStatus old new (Refused cause)
  by_cause (causes.Graph fault) r = (inr (inl refl), λ is. absurd (cc))
  by_cause (causes.Queries fault) r = (inr (inr (inl refl)), λ is. absurd (cc))
  by_cause causes.Memory r = (inr (inr (inr (inl refl))), λ is. absurd (cc))
  by_cause (causes.Read input) r = (inr (inr (inr (inr (inl refl)))), λ is. absurd (cc))
  by_cause (causes.Write fault) r = (inr (inr (inr (inr (inl refl)))), λ is. absurd (cc))
  by_cause causes.Mixed r = (inr (inr (inr (inr (inr refl)))), λ is. r.1)
  by_cause cause r = absurd r

-- where a hierarchy is prepared
pub preparing_end : (outcome : Ending) (graph old new : Option (List ℕ)) → TellsPrepared outcome graph old new → EndsBy IsPreparingStatus old new outcome
preparing_end outcome graph old new = ending IsPreparingStatus old new (inl refl) by_cause outcome where
  by_cause : (cause : Cause) → RefusesPreparing graph old new cause → EndsBy IsPreparingStatus old new (Refused cause)
  by_cause (causes.Graph fault) r = (inr (inl refl), λ is. absurd (cc))
  by_cause causes.Memory r = (inr (inr (inl refl)), λ is. absurd (cc))
  by_cause (causes.Read input) r = (inr (inr (inr (inl refl))), λ is. absurd (cc))
  by_cause (causes.Write fault) r = (inr (inr (inr (inl refl))), λ is. absurd (cc))
  by_cause causes.Mixed r = (inr (inr (inr (inr refl))), λ is. r.1)
  by_cause cause r = absurd r

-- where pairs are answered by one
pub routing_end : (outcome : Ending) (file pairs old new : Option (List ℕ)) → TellsRouted outcome file pairs old new → EndsBy IsRoutingStatus old new outcome
routing_end outcome file pairs old new = ending IsRoutingStatus old new (inl refl) by_cause outcome where
  by_cause : (cause : Cause) → RefusesRoutes file pairs old new cause → EndsBy IsRoutingStatus old new (Refused cause)
  by_cause (causes.Queries fault) r = (inr (inr (inl refl)), λ is. absurd (cc))
  by_cause (causes.Hierarchy fault) r = (inr (inl refl), λ is. absurd (cc))
  by_cause causes.TooLong r = (inr (inl refl), λ is. absurd (cc))
  by_cause causes.Memory r = (inr (inr (inr (inl refl))), λ is. absurd (cc))
  by_cause (causes.Read input) r = (inr (inr (inr (inr refl))), λ is. absurd (cc))
  by_cause (causes.Write fault) r = (inr (inr (inr (inr refl))), λ is. absurd (cc))
  by_cause cause r = absurd r

-- where what one has is printed
pub informing_end : (outcome : Ending) (file old new : Option (List ℕ)) → TellsInfo outcome file old new → EndsBy IsInformingStatus old new outcome
informing_end outcome file old new = ending IsInformingStatus old new (inl refl) by_cause outcome where
  by_cause : (cause : Cause) → RefusesInfo file old new cause → EndsBy IsInformingStatus old new (Refused cause)
  by_cause (causes.Hierarchy fault) r = (inr (inl refl), λ is. absurd (cc))
  by_cause causes.Memory r = (inr (inr (inl refl)), λ is. absurd (cc))
  by_cause (causes.Read input) r = (inr (inr (inr refl)), λ is. absurd (cc))
  by_cause (causes.Write fault) r = (inr (inr (inr refl)), λ is. absurd (cc))
  by_cause cause r = absurd r

-- where one is checked
pub checking_end : {outcome : Ending} {graph file old new : Option (List ℕ)} → TellsChecked outcome graph file old new → EndsBy IsCheckingStatus old new outcome
checking_end {outcome = Done} t = (inl refl, λ is. absurd (cc))
checking_end {outcome = Wrong} t = (inr (inr (inr (inr (inr (inl refl))))), λ is. absurd (cc))
checking_end {outcome = NotShown} t = (inr (inr (inr (inr (inr (inr refl))))), λ is. absurd (cc))
checking_end {outcome = Refused (causes.Graph fault)} t = (inr (inl refl), λ is. absurd (cc))
checking_end {outcome = Refused (causes.Hierarchy fault)} t = (inr (inr (inl refl)), λ is. absurd (cc))
checking_end {outcome = Refused causes.OldVersion} t = (inr (inr (inl refl)), λ is. absurd (cc))
checking_end {outcome = Refused causes.Memory} t = (inr (inr (inr (inl refl))), λ is. absurd (cc))
checking_end {outcome = Refused (causes.Read input)} t = (inr (inr (inr (inr (inl refl)))), λ is. absurd (cc))
checking_end {outcome = Refused (causes.Write fault)} t = (inr (inr (inr (inr (inl refl)))), λ is. absurd (cc))
checking_end {outcome = Refused cause} t = absurd (t.refused cause refl)

-- where one is made by the ranks of another one
pub renewing_end : {outcome : Ending} {graph file old new : Option (List ℕ)} → TellsRenewed outcome graph file old new → EndsBy IsRenewingStatus old new outcome
renewing_end {outcome = Done} t = (inl refl, λ is. absurd (cc))
renewing_end {outcome = Wrong} t = (inr (inr (inr (inr (inr refl)))), λ is. absurd (cc))
renewing_end {outcome = NotShown} t = absurd (t.shown refl)
renewing_end {outcome = Refused (causes.Graph fault)} t = (inr (inl refl), λ is. absurd (cc))
renewing_end {outcome = Refused (causes.Hierarchy fault)} t = (inr (inr (inl refl)), λ is. absurd (cc))
renewing_end {outcome = Refused causes.Memory} t = (inr (inr (inr (inl refl))), λ is. absurd (cc))
renewing_end {outcome = Refused (causes.Read input)} t = (inr (inr (inr (inr (inl refl)))), λ is. absurd (cc))
renewing_end {outcome = Refused (causes.Write fault)} t = (inr (inr (inr (inr (inl refl)))), λ is. absurd (cc))
renewing_end {outcome = Refused cause} t = absurd (t.refused cause refl)

-- where a job is any of these

answer_end : (joined : Bool) (outcome : Ending) (graph pairs first second old new : Option (List ℕ)) → MatchBool joined (TellsAnswers outcome graph pairs old new) (TellsAnswers outcome first second old new) → EndsBy IsAnsweringStatus old new outcome
answer_end true outcome graph pairs first second old new t = answering_end outcome graph pairs old new t
answer_end false outcome graph pairs first second old new t = answering_end outcome first second old new t

pub job_end : (j : Job) (outcome : Ending) (first second old new : Option (List ℕ)) → Tells j outcome first second old new → EndsBy (IsStatusOf j) old new outcome
job_end (Answer graph queries) outcome first second old new t = answer_end (is_joined (Answer graph queries)) outcome _ _ _ _ old new t.of_job
job_end (Prepare preparation) outcome first second old new t = preparing_end outcome first old new t.of_job
job_end (Route hierarchy queries) outcome first second old new t = routing_end outcome first second old new t.of_job
job_end (Info hierarchy) outcome first second old new t = informing_end outcome first old new t.of_job
job_end (Check check) outcome first second old new t = checking_end t.of_job
job_end (Renew renewal) outcome first second old new t = renewing_end t.of_job

-- What the outcome of a preparation says where its bytes are put at a destination.

-- what was written, where the bytes aren't known
untold_file : (graph old new : Option (List ℕ)) → IfSome graph (λ text. Writes (Prepares text) old new) → IfSome graph (λ text. Writes (Prepares text) None None)
untold_file graph old new file = IfSome_then graph file (λ text put. (put.0, put.1, tt))

-- what an outcome says of the text alone
untold : (outcome : Ending) (graph old new : Option (List ℕ)) → TellsPrepared outcome graph old new → TellsPut outcome graph
untold Done graph old new t = is_done _ _ (untold_file graph old new (t.done refl))
untold Wrong graph old new t = absurd (t.no_verdict.0 refl)
untold NotShown graph old new t = absurd (t.no_verdict.1 refl)
untold (Refused (causes.Graph fault)) graph old new t = is_refused {why = causes.Graph fault} _ _ ((t.refused (causes.Graph fault) refl).0, tt)
untold (Refused causes.Memory) graph old new t = is_refused {why = causes.Memory} _ _ tt
untold (Refused (causes.Read input)) graph old new t = is_refused {why = causes.Read input} _ _ ((t.refused (causes.Read input) refl).0, tt)
untold (Refused (causes.Write fault)) None old new t = is_refused {why = causes.Write fault} _ _ tt
untold (Refused (causes.Write fault)) (Some text) old new t = let part = t.refused (causes.Write fault) refl in is_refused {why = causes.Write fault} _ _ (part.0, part.1, part.2, tt)
untold (Refused causes.Mixed) graph old new t = is_refused {why = causes.Mixed} _ _ ((t.refused causes.Mixed refl).0, tt)
untold (Refused cause) graph old new t = absurd (t.refused cause refl)

-- a text of which a hierarchy was prepared spells a graph
is_text : (graph old new : Option (List ℕ)) → IfSome graph (λ text. Writes (Prepares text) old new) → IfSome graph IsGraphText
is_text graph old new file = IfSome_then graph file (λ text put. (put.1.graph, put.1.graph_reads))

-- what the outcome says of the text once the draft was put or thrown away, and its status
pub finished : (graph old new : Option (List ℕ)) {prepared result : Ending} → (result ≡ prepared) ⊎ ((prepared ≡ Done) × (result ≡ Refused causes.Flush)) → TellsPrepared prepared graph old new → TellsPut result graph × IsPreparingStatus (status_after result)
finished graph old new {prepared} (inl is) t = subst (λ (o : Ending). TellsPut o graph × IsPreparingStatus (status_after o)) (sym is) (untold prepared graph old new t, (preparing_end prepared graph old new t).0)
finished graph old new (inr failed) t =
    subst (λ (o : Ending). TellsPut o graph × IsPreparingStatus (status_after o)) (sym failed.1)
    (is_text graph old new (t.done failed.0), inr (inr (inr (inl refl))))

-- where it is done, so was the work
pub was_done : {prepared result : Ending} → (result ≡ prepared) ⊎ ((prepared ≡ Done) × (result ≡ Refused causes.Flush)) → result ≡ Done → prepared ≡ Done
was_done (inl is) done = sym is ∙ done
was_done (inr failed) done = failed.0

-- all bytes of a draft that was empty
whole : (IsFile : List ℕ → Type 0) (new : Option (List ℕ)) {stands : Option (Option (List ℕ))} → stands ≡ option_map Some new → Writes IsFile (Some []) new → (bytes : List ℕ) × IsFile bytes × (stands ≡ Some (Some bytes))
whole IsFile None put file = absurd file.2
whole IsFile (Some ys) put file = (file.0, file.1, put ∙ ap (λ (bytes : List ℕ). Some (Some bytes)) file.2)

-- where what was there before is known
stands_whole : (IsFile : List ℕ → Type 0) (stood : Option (Option (List ℕ))) {old : Option (List ℕ)} (new : Option (List ℕ)) {stands : Option (Option (List ℕ))} → old ≡ option_map (λ _. []) stood → stands ≡ option_map Some new
    → Writes IsFile old new → IfSome stood (λ before. (bytes : List ℕ) × IsFile bytes × (stands ≡ Some (Some bytes)))
stands_whole IsFile None new starts put file = tt
stands_whole IsFile (Some before) new starts put file = whole IsFile new put (subst (λ (o : Option (List ℕ)). Writes IsFile o new) starts file)

-- the draft that was put is the file of the hierarchy
pub has_prepared : (graph : Option (List ℕ)) (stood : Option (Option (List ℕ))) {old : Option (List ℕ)} (new : Option (List ℕ)) {stands : Option (Option (List ℕ))} → old ≡ option_map (λ _. []) stood → stands ≡ option_map Some new
    → IfSome graph (λ text. Writes (Prepares text) old new) → HasPrepared graph stood stands
has_prepared graph stood new starts put file = IfSome_then graph file (λ text written. stands_whole (Prepares text) stood new starts put written)

-- The same where a hierarchy is made by the ranks of another one.

-- a refusal
pub renewal_refused : (why : Cause) (graph file old new : Option (List ℕ)) → RefusesRenewing graph file old new why → TellsRenewed (Refused why) graph file old new
renewal_refused why graph file old new refused = record {
  done = λ is. absurd (cc);
  wrong = λ is. absurd (cc);
  shown = λ is. absurd (cc);
  refused = λ cause is. let same : why ≡ cause = cc in subst (RefusesRenewing graph file old new) same refused;
}

untold_renewed : (outcome : Ending) (graph file old new : Option (List ℕ)) → TellsRenewed outcome graph file old new → TellsRenewedPut outcome graph file
untold_renewed Done graph file old new t = record {
  done = λ is. known_then graph file (t.done refl) (λ text bytes put. (put.0, put.1, tt));
  wrong = λ is. absurd (cc);
  shown = λ is. absurd (cc);
  refused = λ cause is. absurd (cc);
}
untold_renewed Wrong graph file old new t = record {
  done = λ is. absurd (cc);
  wrong = λ is. ((t.wrong refl).0, tt);
  shown = λ is. absurd (cc);
  refused = λ cause is. absurd (cc);
}
untold_renewed NotShown graph file old new t = absurd (t.shown refl)
untold_renewed (Refused (causes.Graph fault)) graph file old new t = renewal_refused (causes.Graph fault) graph file None None ((t.refused (causes.Graph fault) refl).0, tt)
untold_renewed (Refused (causes.Hierarchy fault)) graph file old new t = renewal_refused (causes.Hierarchy fault) graph file None None ((t.refused (causes.Hierarchy fault) refl).0, tt)
untold_renewed (Refused causes.Memory) graph file old new t = renewal_refused causes.Memory graph file None None tt
untold_renewed (Refused (causes.Read input)) graph file old new t = renewal_refused (causes.Read input) graph file None None ((t.refused (causes.Read input) refl).0, tt)
untold_renewed (Refused (causes.Write fault)) graph file old new t =
    renewal_refused (causes.Write fault) graph file None None (known_then graph file (t.refused (causes.Write fault) refl) (λ text bytes part. (part.0, part.1, part.2, tt)))
untold_renewed (Refused cause) graph file old new t = absurd (t.refused cause refl)

pub finished_renewed : (graph file old new : Option (List ℕ)) {renewed result : Ending} → (result ≡ renewed) ⊎ ((renewed ≡ Done) × (result ≡ Refused causes.Flush)) → TellsRenewed renewed graph file old new
    → TellsRenewedPut result graph file × IsRenewingStatus (status_after result)
finished_renewed graph file old new {renewed} (inl is) t =
    subst (λ (o : Ending). TellsRenewedPut o graph file × IsRenewingStatus (status_after o)) (sym is) (untold_renewed renewed graph file old new t, (renewing_end t).0)
finished_renewed graph file old new (inr failed) t =
    subst (λ (o : Ending). TellsRenewedPut o graph file × IsRenewingStatus (status_after o)) (sym failed.1)
    (known_then graph file (t.done failed.0) (λ text bytes put. (put.0, put.1)), inr (inr (inr (inr (inl refl)))))

pub has_renewed : (graph file : Option (List ℕ)) (stood : Option (Option (List ℕ))) {old : Option (List ℕ)} (new : Option (List ℕ)) {stands : Option (Option (List ℕ))} → old ≡ option_map (λ _. []) stood → stands ≡ option_map Some new
    → IfBothKnown graph file (λ text bytes. Writes (Renews text bytes) old new) → HasRenewed graph file stood stands
has_renewed graph file stood new starts put made = known_then graph file made (λ text bytes written. stands_whole (Renews text bytes) stood new starts put written)

-- it may be prepared from the text of the graph
pub renewed_is_prepared : (text bytes made : List ℕ) → Renews text bytes made → Prepares text made
renewed_is_prepared text bytes made is = record { graph = is.graph; hierarchy = is.new; graph_reads = is.graph_reads; version = is.version; right = is.right; spells = is.spells }

-- What two statuses 0 say together.

-- with status 0 a job is done, and no other way
pub zero_done : ZeroIsDone
zero_done Done is = refl
zero_done (Refused causes.Memory) is = absurd (cc)
zero_done outcome is = absurd (cc)

-- where a file is right for the graph
pub joined : (IsFileOf : List ℕ → List ℕ → Type 0) → ((graph_text bytes : List ℕ) → IsFileOf graph_text bytes → Prepares graph_text bytes) → RoutesHaveFewestArcs → AnswersAreBestRoutes → RoutesAreExactAfter IsFileOf
joined IsFileOf right fewest best graph_text bytes pairs_text old new is_file told =
    let routed = told.done refl in
    (routed.0, (best graph_text pairs_text routed.0).0 (fewest graph_text bytes pairs_text routed.0 (right graph_text bytes is_file) routed.1), routed.2)
