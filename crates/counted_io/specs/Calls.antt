-- Which calls of a reader or a writer were made, and what they returned. A step is one call: it leads from what the reader
-- or writer was to what it is, with the call's result: how many bytes were given or taken, or an error. A step of a writer
-- is a call that offered it one byte or more. A flush has steps of its own, whose result counts no bytes.
use Rattle.std.specs.Prelude.{ℕ, suc, ◌≡◌, ◌≢◌, ◌+◌, ◌<◌, ◌⊎◌, Result, Ok, Err}
use Rattle.std.specs.IoError.{error_kind}
use Rattle.std.specs.declared.io.Error.{Error}
use Rattle.std.specs.declared.io.ErrorKind.TheVariants.{Interrupted}

-- the call was interrupted
abbrev pub IsInterrupted : {A : Type 0} → Result A Error → Type 0
IsInterrupted (Ok n) = ⊥
IsInterrupted (Err e) = error_kind e ≡ Interrupted

-- the call failed: by an error that is no interruption
abbrev pub IsFailure : {A : Type 0} → Result A Error → Type 0
IsFailure (Ok n) = ⊥
IsFailure (Err e) = error_kind e ≢ Interrupted

-- the same of a writer, for which to take none of the bytes that it was offered is a failure too
abbrev pub IsFailedWrite : Result ℕ Error → Type 0
IsFailedWrite (Ok n) = n ≡ 0
IsFailedWrite (Err e) = error_kind e ≢ Interrupted

-- This many calls were made, one after the other, whatever they returned.
pub data Calls {S A : Type 0} (step : S → S → Result A Error → Type 0) : ℕ → S → S → Type 0 where
  no_call : {a : S} → Calls step 0 a a
  one_more : {n : ℕ} {a b c : S} {answer : Result A Error} → Calls step n a b → step b c answer → Calls step (suc n) a c

-- As many calls were made as are gone of those that were left.
abbrev pub IsCalled : {S A : Type 0} → (S → S → Result A Error → Type 0) → ℕ → ℕ → S → S → Type 0
IsCalled step before after old new = (calls : ℕ) × (before ≡ after + calls) × Calls step calls old new

-- This many calls were made, one after the other, and each was interrupted.
pub data Waits {S A : Type 0} (step : S → S → Result A Error → Type 0) : ℕ → S → S → Type 0 where
  no_call : {a : S} → Waits step 0 a a
  one_more : {n : ℕ} {a b c : S} {answer : Result A Error} → Waits step n a b → step b c answer → IsInterrupted answer → Waits step (suc n) a c

-- This many calls were made, the last of which returned this, and each before it was interrupted.
pub record EndsBy {S A : Type 0} (step : S → S → Result A Error → Type 0) (calls : ℕ) (old new : S) (answer : Result A Error) : Type 0 where
  pub interruptions : ℕ
  pub before : S
  pub waits : Waits step interruptions old before
  pub last : step before new answer
  pub calls_are : calls ≡ interruptions + 1

-- This many calls were made. Each before the last was interrupted, and the last failed; or it was interrupted too, and no
-- call is left.
abbrev pub FailsBy : {S A : Type 0} → (S → S → Result A Error → Type 0) → ℕ → ℕ → S → S → Type 0
FailsBy {A = A} step calls left old new = ((answer : Result A Error) × IsFailure answer × EndsBy step calls old new answer) ⊎ ((left ≡ 0) × Waits step calls old new)

-- One call of a writer took this many bytes, one or more, or it was interrupted and took none.
abbrev pub TakesBy : {S : Type 0} → (S → S → Result ℕ Error → Type 0) → ℕ → S → S → Type 0
TakesBy step n old new = ((0 < n) × step old new (Ok n)) ⊎ ((n ≡ 0) × ((answer : Result ℕ Error) × IsInterrupted answer × step old new answer))

-- This many calls of a writer were made, one after the other. Each took bytes or was interrupted, and this many bytes were
-- taken in all.
pub data Takings {S : Type 0} (step : S → S → Result ℕ Error → Type 0) : ℕ → ℕ → S → S → Type 0 where
  no_call : {a : S} → Takings step 0 0 a a
  one_more : {calls taken n : ℕ} {a b c : S} → Takings step calls taken a b → TakesBy step n b c → Takings step (suc calls) (taken + n) a c

-- This many calls of a writer were made, which took this many bytes, and the last of them failed or took no byte.
pub record RefusesBy {S : Type 0} (step : S → S → Result ℕ Error → Type 0) (calls taken : ℕ) (old new : S) : Type 0 where
  pub earlier : ℕ
  pub before : S
  pub answer : Result ℕ Error
  pub takes : Takings step earlier taken old before
  pub last : step before new answer
  pub refuses : IsFailedWrite answer
  pub calls_are : calls ≡ earlier + 1

-- This many calls of a writer were made, which took this many bytes. The last failed or took no byte, or no call is
-- left.
abbrev pub StopsBy : {S : Type 0} → (S → S → Result ℕ Error → Type 0) → ℕ → ℕ → ℕ → S → S → Type 0
StopsBy step calls left taken old new = RefusesBy step calls taken old new ⊎ ((left ≡ 0) × Takings step calls taken old new)
