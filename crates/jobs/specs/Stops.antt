-- How the program ends where there is no job.
use Rattle.std.specs.Prelude.{ℕ, ◌≡◌, ◌⊎◌, List, Option, string_bytes}
use Rattle.std.specs.Io.KnownBytes.{Appends}
use Rattle.jobs.specs.declared.job.Stop.{Stop}
use Rattle.jobs.specs.declared.job.Stop.TheVariants as stops

-- The status of a command line that names no job. Help or a version that can't be written ends as a failed write does.
abbrev pub HasStatus : Stop → ℕ → Type 0
HasStatus (stops.Told text) status = (status ≡ 0) ⊎ (status ≡ 7)
HasStatus (stops.Refused text) status = status ≡ 2
HasStatus stops.NotText status = status ≡ 2
HasStatus stops.OneFile status = status ≡ 2
HasStatus stops.OutOfTurn status = status ≡ 2
HasStatus stops.OutOfMemory status = status ≡ 6

-- Help or the version was written, after what the writer held before, where that is known.
abbrev pub IsShown : Stop → Option (List ℕ) → Option (List ℕ) → Type 0
IsShown (stops.Told text) old new = Appends old new (string_bytes text)
IsShown stop old new = ⊥
