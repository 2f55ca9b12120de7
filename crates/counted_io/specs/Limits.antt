-- What a limit of calls means for whoever reads or writes by many loops over one reader or writer.
use Rattle.std.specs.Prelude.{ℕ, suc, ◌≡◌, ◌+◌, ⊤, Result, Ok, Err}
use Rattle.std.specs.IoError.{error_kind}
use Rattle.std.specs.declared.io.Error.{Error}
use Rattle.std.specs.declared.io.ErrorKind.TheVariants.{Interrupted}
use Rattle.counted_io.specs.Calls.{Calls, IsFailure, StopsBy, Takings}
pub mod Laws

-- the call of a reader did not fail: it gave bytes, or none at the end, or it was interrupted
abbrev pub GivesOrWaits : Result ℕ Error → Type 0
GivesOrWaits (Ok n) = ⊤
GivesOrWaits (Err e) = error_kind e ≡ Interrupted

abbrev pub NoFailure : {S : Type 0} → (S → S → Result ℕ Error → Type 0) → S → S → Result ℕ Error → Type 0
NoFailure step old new answer = step old new answer × GivesOrWaits answer

-- As many calls of a reader were made as are gone of those that were left, and none of them failed.
pub record IsRead {S : Type 0} (step : S → S → Result ℕ Error → Type 0) (before after : ℕ) (old new : S) : Type 0 where
  pub calls : ℕ
  pub counted : before ≡ after + calls
  pub none_failed : Calls (NoFailure step) calls old new

-- At most this many calls of a reader were made, and none of them failed.
abbrev pub IsReadWithin : {S : Type 0} → (S → S → Result ℕ Error → Type 0) → ℕ → S → S → Type 0
IsReadWithin step most old new = (after : ℕ) × IsRead step most after old new

-- A reader that may be called this often gave out: one of these calls failed, the last that was made; or none failed, and
-- exactly this many were made.
pub data GivesOut {S : Type 0} (step : S → S → Result ℕ Error → Type 0) (most : ℕ) (old new : S) : Type 0 where
  fails : (after : ℕ) {before : S} {answer : Result ℕ Error} → IsRead step most (suc after) old before → step before new answer → IsFailure answer → GivesOut step most old new
  ends : IsRead step most 0 old new → GivesOut step most old new

-- At most this many calls of a reader were made. It gave out where `failed` holds, and else no call failed.
pub data ReadsWithin {S : Type 0} (step : S → S → Result ℕ Error → Type 0) (most : ℕ) (failed : Type 0) (old new : S) : Type 0 where
  gives_out : failed → GivesOut step most old new → ReadsWithin step most failed old new
  reads_on : (failed → ⊥) → IsReadWithin step most old new → ReadsWithin step most failed old new

-- As many calls of a writer were made as are gone of those that were left. None failed, and this many bytes were taken.
abbrev pub IsWritten : {S : Type 0} → (S → S → Result ℕ Error → Type 0) → ℕ → ℕ → ℕ → S → S → Type 0
IsWritten step before after taken old new = (calls : ℕ) × (before ≡ after + calls) × Takings step calls taken old new

-- At most this many calls of a writer were made. None of them failed, and this many bytes were taken.
abbrev pub IsWrittenWithin : {S : Type 0} → (S → S → Result ℕ Error → Type 0) → ℕ → ℕ → S → S → Type 0
IsWrittenWithin step most taken old new = (after : ℕ) × IsWritten step most after taken old new

-- At most this many calls of a writer were made, which took this many bytes. The last failed or took no byte; or none
-- did, and exactly this many were made.
abbrev pub StopsWithin : {S : Type 0} → (S → S → Result ℕ Error → Type 0) → ℕ → ℕ → S → S → Type 0
StopsWithin step most taken old new = (calls : ℕ) × (left : ℕ) × (most ≡ left + calls) × StopsBy step calls left taken old new
