-- How a run ends whose input can't be opened.
use Rattle.std.specs.Prelude.{◌≡◌, ◌⊎◌}
use Rattle.outcomes.specs.Outcomes.{status_after}
use Rattle.terminal.specs.declared.explaining.Ended.{Ended}

-- out of memory, or a failed read
abbrev pub IsUnopened : Ended → Type 0
IsUnopened ended = (status_after ended.outcome ≡ 6) ⊎ (status_after ended.outcome ≡ 7)
