-- What a call does that reads a file, or a part of one through a buffer. `was` and `now` are the buffer before and after it,
-- `old` and `new` the reader. A step is one call of the reader, and `remaining` is what it has left, where that is known.
use Rattle.std.specs.Prelude.{ℕ, ◌≡◌, ◌<◌, List, length, Option, Result, IfErr, IfOk, IfSome, MatchResult, OnOk}
use Rattle.std.specs.Io.KnownBytes.{Consumes}
use Rattle.std.specs.declared.io.Error.{Error}
use Rattle.counted_io.specs.Limits.{IsRead, IsReadWithin, ReadsWithin}
use Rattle.ch_graph.specs.Hierarchy.{Hierarchy}
use Rattle.hierfile.specs.declared.error.HierError.{HierError}
use Rattle.hierfile.specs.declared.error.HierError.TheVariants.{OutOfMemory, Read}
use Rattle.hierfile.specs.Spelling.{bytes_of}
use Rattle.hierfile.specs.Fault.{first_fault}
use Rattle.hierfile.specs.Bytes.{Buffered, Fits, ButReadAhead, coming, HasNoneButHalves, HasNoneSoFar, IsCut, IsFaultOf, StopsWhere}

-- A whole file was read or refused, by this many calls of the reader at most.
pub record ReadsFile {S : Type 0} (step : S → S → Result ℕ Error → Type 0) (remaining : S → Option (List ℕ)) (most : ℕ) (old new : S) (result : Result Hierarchy HierError) : Type 0 where
  -- all bytes of the reader spell the hierarchy
  pub ok : IfOk result (λ hierarchy. IfSome (remaining old) (λ bytes. bytes ≡ bytes_of hierarchy))
  -- none of the calls failed
  pub calls : OnOk result (IsReadWithin step most old new)
  -- a refusal is their first fault
  pub err : IfErr result (IsFaultOf first_fault (remaining old))
  -- where a read failed, what came has no fault but its early end; where memory ran out, what was tested has no other, the
  -- halves of links aside
  pub so_far : IfErr result (λ e. e ≡ Read → StopsWhere (HasNoneSoFar first_fault) (remaining old) (remaining new))
  pub memory : IfErr result (λ e. e ≡ OutOfMemory → StopsWhere (ButReadAhead (HasNoneButHalves first_fault)) (remaining old) (remaining new))
  -- the reader gave out where the refusal is Read, and else none of the calls failed
  pub stopped : IfErr result (λ e. ReadsWithin step most (e ≡ Read) old new)

-- The call succeeded.
pub record HasRead {S : Type 0} (step : S → S → Result ℕ Error → Type 0) (remaining : S → Option (List ℕ)) (was now : Buffered) (old new : S) (says : Option (List ℕ) → Option (List ℕ) → Type 0) : Type 0 where
  -- what is said of the bytes that were to come before it, and of those that are to come after it
  pub bytes : says (coming was.waiting (remaining old)) (coming now.waiting (remaining new))
  -- as many calls of the reader were made as are gone of those that were left, and none of them failed
  pub calls : IsRead step was.left now.left old new
  -- what waits is still no more than the buffer holds
  pub fits : Fits was → Fits now

-- The call was refused.
pub record IsRefused {S : Type 0} (step : S → S → Result ℕ Error → Type 0) (remaining : S → Option (List ℕ)) (was : Buffered) (old new : S) (says : Buffered → Option (List ℕ) → Option (List ℕ) → HierError → Type 0) (e : HierError) : Type 0 where
  -- what is said of the buffer before it, of the bytes that the reader had left then and has left now, and of the refusal
  pub fault : says was (remaining old) (remaining new) e
  -- no more calls of the reader were made than were left: it gave out where the refusal is Read, and else none failed
  pub calls : ReadsWithin step was.left (e ≡ Read) old new

-- The call succeeded, and this is said of its result and of the bytes; or it was refused, and that is said of the refusal.
abbrev pub Reads : {S X : Type 0} → (S → S → Result ℕ Error → Type 0) → (S → Option (List ℕ)) → Buffered → Buffered → S → S → (X → Option (List ℕ) → Option (List ℕ) → Type 0) → (Buffered → Option (List ℕ) → Option (List ℕ) → HierError → Type 0) → Result X HierError → Type 0
Reads step remaining was now old new says refuses result = MatchResult result (λ x. HasRead step remaining was now old new (says x)) (IsRefused step remaining was old new refuses)

-- A refusal is the fault of the bytes that were to come. Where it is a failed read, those that came before are such. Where
-- memory ran out, those that were tested are such: all that came but what was read ahead, if before the call no more waited
-- than the buffer holds.
pub record Refuses (fault_of : List ℕ → Option HierError) (came tested : List ℕ → Type 0) (was : Buffered) (had left : Option (List ℕ)) (e : HierError) : Type 0 where
  pub told : IsFaultOf fault_of (coming was.waiting had) e
  pub read : e ≡ Read → StopsWhere came (coming was.waiting had) left
  pub memory : e ≡ OutOfMemory → Fits was → StopsWhere (ButReadAhead tested) (coming was.waiting had) left

-- The reader failed when fewer than this many bytes had come.
pub record FailsBefore (count : ℕ) (was : Buffered) (had left : Option (List ℕ)) (e : HierError) : Type 0 where
  pub read : e ≡ Read
  pub came : StopsWhere (λ came. length came < count) (coming was.waiting had) left

-- The call took the bytes that spell its result; or it was refused, and the bytes to come have this fault. Where a read
-- failed, those that came had no other fault than that more of them were wanted, and where memory ran out, those that were
-- tested.
abbrev pub ReadsValue : {S X : Type 0} → (S → S → Result ℕ Error → Type 0) → (S → Option (List ℕ)) → Buffered → Buffered → S → S → (X → List ℕ) → (List ℕ → Option HierError) → Result X HierError → Type 0
ReadsValue step remaining was now old new spelled fault_of result = Reads step remaining was now old new (λ x before after. Consumes before after (spelled x)) (Refuses fault_of (IsCut fault_of) (IsCut fault_of)) result
