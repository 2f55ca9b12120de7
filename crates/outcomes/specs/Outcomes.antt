-- How a job ends, and what that says.
use Rattle.std.specs.Prelude.{ℕ, ◌≡◌, ◌≢◌, ◌⊎◌, ⊤, Result, Ok, Err}
use Rattle.outcomes.specs.Causes.{status_of}
use Rattle.outcomes.specs.declared.cause.Cause.{Cause}
use Rattle.outcomes.specs.declared.ending.Ending.{Ending}
use Rattle.outcomes.specs.declared.ending.Ending.TheVariants.{Done, Wrong, NotShown, Refused}

abbrev pub ending_after : Result ⊤ Cause → Ending
ending_after (Ok done) = Done
ending_after (Err cause) = Refused cause

-- the status of the program
abbrev pub status_after : Ending → ℕ
status_after Done = 0
status_after Wrong = 9
status_after NotShown = 10
status_after (Refused cause) = status_of cause

-- What an outcome of a job that comes to no verdict says: that all is done, or what a refusal says by its cause.
pub record Ends (outcome : Ending) (IsDone : Type 0) (Refuses : Cause → Type 0) : Type 0 where
  pub done : outcome ≡ Done → IsDone
  pub refused : (cause : Cause) → outcome ≡ Refused cause → Refuses cause
  pub no_verdict : (outcome ≢ Wrong) × (outcome ≢ NotShown)

-- a status with which no line is printed
abbrev pub IsQuiet : ℕ → Type 0
IsQuiet status = (status ≡ 0) ⊎ (status ≡ 9) ⊎ (status ≡ 10)
