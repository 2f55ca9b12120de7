-- Why a refusal says by its cause what its call says of it.
use Rattle.std.proofs.Common.{ℕ, ◌≡◌, List, length, Option, inl, inr, refl, sym, ap, subst, arith, Some, IfSome, Ok, Err}
use Rattle.std.specs.Io.KnownBytes.{Keeps}
use Rattle.std.proofs.lemmas.Option.{IfSome_then}
use Rattle.grfile.specs.Reading.{graph_of, pairs_of}
use Rattle.hierfile.specs.Fault.{first_fault}
use Rattle.outcomes.specs.Causes.{text_case, file_case, of_text}
use Rattle.outcomes.specs.Written.{all_known, first_known, known_then}
use Rattle.outcomes.specs.declared.cause.Cause.TheVariants as causes
use Rattle.outcomes.specs.declared.cause.Input.TheVariants as inputs
use Rattle.ch_workers.specs.Options.{AreGood}
use Rattle.ch_workers.specs.declared.error.BuildError.TheVariants as building
use Rattle.ch_workers.specs.declared.options.Options.{Options}
use Rattle.ch_workers.specs.declared.options.TheConstants.Options.{PLAIN}
use Rattle.ch_unpack.specs.declared.error.UnpackError.TheVariants as unpacking
use Rattle.ch_service.specs.declared.error.ServiceError.{ServiceError}
use Rattle.ch_service.specs.declared.error.ServiceError.TheVariants.{Graph, Queries, Hierarchy, Build, Unpack, Write, OutOfMemory}
use Rattle.ch_service.specs.Cause.{cause_of}
use Rattle.ch_service.specs.Outcome.{StopsAnswering, StopsReading, StopsRouting}
use Rattle.ch_service.specs.Preparation.{StopsPreparing}
use Rattle.ch_service.specs.Refusals.{RefusesAnswers, RefusesPreparing, RefusesRoutes, AnswersTell, JoinedAnswersTell, PreparationsTell, RoutesTell}

-- where pairs are answered from two texts
module _ {o : Options} {lists : ℕ} (graph graph_left pairs pairs_left old new : Option (List ℕ)) where
  answers : (e : ServiceError) → (e ≡ Build building.BadOptions → AreGood o lists) → StopsAnswering o lists graph graph_left pairs pairs_left old new e → RefusesAnswers graph pairs old new (cause_of e)
  answers (Graph fault) good s =
      text_case fault.kind inputs.Graph (causes.Graph fault) (RefusesAnswers graph pairs old new) (all_known graph pairs (λ g p. inl s.2)) (inl refl, s.2)
      (λ own. (first_known graph pairs _ (IfSome_then graph s.0 (λ g. own (graph_of g ≡ Err fault))), s.2))
  answers (Queries fault) good s =
      text_case fault.kind inputs.Queries (causes.Queries fault) (RefusesAnswers graph pairs old new) (all_known graph pairs (λ g p. inl s.2)) (inr refl, s.2)
      (λ own. (known_then graph pairs s.0 (λ g p h. (h.0, h.1, own (pairs_of h.0.nodes p ≡ Err fault) h.2)), s.2))
  answers (Build building.OutOfMemory) good s = all_known graph pairs (λ g p. inl s.2)
  answers (Build building.BadOptions) good s = absurd (s.0.0 refl (good refl))
  answers (Build building.Mixed) good s = (s.1, s.2)
  answers (Unpack unpacking.OutOfMemory) good s = known_then graph pairs s.1 (λ g p w. inr w)
  answers (Write fault) good s = s.1
  answers OutOfMemory good s = known_then graph pairs s.1 (λ g p w. w.1)
  answers e good s = absurd s

pub answers-tell : AnswersTell
answers-tell o lists graph graph_left pairs pairs_left old new (Ok x) good s = tt
answers-tell o lists graph graph_left pairs pairs_left old new (Err e) good s = answers {o = o} {lists = lists} graph graph_left pairs pairs_left old new e (λ is. good (ap Err is)) s

-- and where both are in one input, which wasn't read, or was

unread : (graph pairs had left old new : Option (List ℕ)) (e : ServiceError) → StopsReading had left e → Keeps old new → RefusesAnswers graph pairs old new (cause_of e)
unread graph pairs had left old new (Graph fault) s k = subst (λ kind. RefusesAnswers graph pairs old new (of_text kind inputs.Graph (causes.Graph fault))) (sym s.0) (inl refl, k)
unread graph pairs had left old new OutOfMemory s k = all_known graph pairs (λ g p. inl k)
unread graph pairs had left old new e s k = absurd s

plain_is_good : AreGood PLAIN 0
plain_is_good = record {
  workers = omega arith;
  heaps = record { above = omega arith; below = omega arith };
  settle = record { above = omega arith; below = omega arith };
  defer = omega arith;
  turns = record { above = omega arith; below = omega arith };
  stint = record { above = omega arith; below = omega arith };
  a_list_each = refl;
}

pub joined-tell : JoinedAnswersTell
joined-tell input left old new (Ok x) s = tt
joined-tell input left old new (Err e) s = elim s [
  | inl stopped ↦ unread _ _ input left old new e stopped.0 stopped.1
  | inr was ↦ answers {o = PLAIN} {lists = 0} _ was.2.0 _ was.2.1 old new e (λ _. plain_is_good) was.2.2
]

-- where a hierarchy is prepared
module _ {o : Options} {lists : ℕ} (graph left old new : Option (List ℕ)) where
  preparing : (e : ServiceError) → (e ≡ Build building.BadOptions → AreGood o lists) → StopsPreparing o lists graph left old new e → RefusesPreparing graph old new (cause_of e)
  preparing (Graph fault) good s = text_case fault.kind inputs.Graph (causes.Graph fault) (RefusesPreparing graph old new) s.2 (refl, s.2) (λ own. (IfSome_then graph s.0 (λ g. own (graph_of g ≡ Err fault)), s.2))
  preparing (Build building.OutOfMemory) good s = s.2
  preparing (Build building.BadOptions) good s = absurd (s.0.0 refl (good refl))
  preparing (Build building.Mixed) good s = (s.1, s.2)
  preparing (Write fault) good s = s.1
  preparing e good s = absurd s

pub preparations-tell : PreparationsTell
preparations-tell o lists graph left old new (Ok x) good s = tt
preparations-tell o lists graph left old new (Err e) good s = preparing {o = o} {lists = lists} graph left old new e (λ is. good (ap Err is)) s

-- and where pairs are answered by the file of one
routes : (file pairs left old new : Option (List ℕ)) (e : ServiceError) → StopsRouting file pairs left old new e → RefusesRoutes file pairs old new (cause_of e)
routes file pairs left old new (Queries fault) s =
    text_case fault.kind inputs.Queries (causes.Queries fault) (RefusesRoutes file pairs old new) (all_known file pairs (λ b p. inl s.2)) (inr refl, s.2)
    (λ own. (known_then file pairs s.0 (λ b p h. (h.0, h.1, own (pairs_of (length h.0.ranks) p ≡ Err fault) h.2)), s.2))
routes file pairs left old new (Hierarchy fault) s =
    file_case fault (RefusesRoutes file pairs old new) (all_known file pairs (λ b p. inl s.1)) (inl refl, s.1)
    (λ own. (first_known file pairs _ (own (IfSome file (λ bytes. first_fault bytes ≡ Some fault)) s.0), s.1))
routes file pairs left old new (Unpack unpacking.OutOfMemory) s = known_then file pairs s (λ b p w. inr w)
routes file pairs left old new (Unpack unpacking.TooLong) s = s
routes file pairs left old new (Write fault) s = s
routes file pairs left old new OutOfMemory s = known_then file pairs s (λ b p w. w.1)
routes file pairs left old new e s = absurd s

pub routes-tell : RoutesTell
routes-tell file pairs left old new (Ok x) s = tt
routes-tell file pairs left old new (Err e) s = routes file pairs left old new e s
