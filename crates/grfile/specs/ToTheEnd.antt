-- What a call does that reads a text to the reader's end, by this many calls of the reader at most. `old` and `new` are
-- the reader before and after it. A step is one call of the reader, and `remaining` is what it has left, where that is known.
use Rattle.std.specs.Prelude.{ℕ, ◌≡◌, List, Option, Result, IfErr, IfSome, MatchResult, OnOk}
use Rattle.std.specs.Io.KnownBytes.{IsAtEnd}
use Rattle.std.specs.declared.io.Error.{Error}
use Rattle.counted_io.specs.Handing.{IsGivenBy}
use Rattle.counted_io.specs.Limits.{IsReadWithin, ReadsWithin}
use Rattle.grfile.specs.declared.error.GrError.{GrError}
use Rattle.grfile.specs.declared.error.GrErrorKind.TheVariants.{Read}
use Rattle.grfile.specs.Outcome.{IsReading}
use Rattle.grfile.specs.Taken.{ComesFirst, StopsAtReached, StopsWith}

-- The call succeeded.
pub record ReachesEnd {S : Type 0} (step : S → S → Result ℕ Error → Type 0) (remaining : S → Option (List ℕ)) (most : ℕ) (old new : S) : Type 0 where
  -- the reader has nothing left
  pub ended : IsAtEnd (remaining new)
  -- this many calls give all that it had
  pub few : IsGivenBy most (remaining old)
  -- no more calls of it were made, and none of them failed
  pub calls : IsReadWithin step most old new

-- The call was refused.
pub record StopsBefore {S : Type 0} (step : S → S → Result ℕ Error → Type 0) (remaining : S → Option (List ℕ)) (most : ℕ) (old new : S) (e : GrError) : Type 0 where
  -- a refusal that says nothing of the text is of the line that was reached
  pub reached : StopsAtReached (remaining old) (remaining new) e
  -- no more calls of the reader were made: it gave out where the refusal is Read, and else none of them failed
  pub calls : ReadsWithin step most (e.kind ≡ Read) old new

-- The call read to the end and succeeded, or it was refused before.
abbrev pub ReadsToEnd : {S A : Type 0} → (S → S → Result ℕ Error → Type 0) → (S → Option (List ℕ)) → ℕ → S → S → Result A GrError → Type 0
ReadsToEnd step remaining most old new result = MatchResult result (λ _. ReachesEnd step remaining most old new) (StopsBefore step remaining most old new)

-- What a text says was read to the reader's end: `told` is what each text says, and `view` is how the result is seen.
pub record ReadsText {S A B : Type 0} (step : S → S → Result ℕ Error → Type 0) (remaining : S → Option (List ℕ)) (told : List ℕ → Result B GrError) (view : A → B) (most : ℕ) (old new : S) (result : Result A GrError) : Type 0 where
  -- the result is what the reader's text says, where that is known
  pub reading : IfSome (remaining old) (λ text. IsReading view result (told text))
  -- on Ok, what ReachesEnd has
  pub ended : OnOk result (IsAtEnd (remaining new))
  pub few : OnOk result (IsGivenBy most (remaining old))
  pub calls : OnOk result (IsReadWithin step most old new)
  -- at a refusal, what StopsBefore has; and one that says nothing of the text comes before each fault of a later line
  pub reached : IfErr result (StopsAtReached (remaining old) (remaining new))
  pub stopped : IfErr result (λ e. ReadsWithin step most (e.kind ≡ Read) old new)
  pub before : IfErr result (StopsWith (ComesFirst told) (remaining old) (remaining new))
