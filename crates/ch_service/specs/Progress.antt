-- How far the pairs are answered, while the answers are put into a sink.
use Rattle.std.specs.Prelude.{ℕ, ◌≡◌, ◌≤◌, ⊤, List, ◌∷◌, ◌++◌, length, take, false, Option, Result, Ok, Err}
use Rattle.std.specs.declared.io.Error.{Error}
use Rattle.counted_io.specs.Sinks.{Gathered, Puts, has_failed}
use Rattle.ch_graph.specs.Hierarchy.{Hierarchy}
use Rattle.ch_service.specs.Outcome.{IsPairFault}
use Rattle.ch_service.specs.Answer.{Routed}
use Rattle.ch_service.specs.declared.error.ServiceError.{ServiceError}

-- By what ended it: all pairs are answered, or the writer has failed; or the next pair was refused.
abbrev pub EndsAt : Hierarchy → List (ℕ × ℕ) → ℕ → Gathered → Result ⊤ ServiceError → Type 0
EndsAt h pairs count now (Ok u) = has_failed now ≡ false → length pairs ≤ count
EndsAt h pairs count now (Err e) = (pair : ℕ × ℕ) × (rest : List (ℕ × ℕ)) × (pairs ≡ take count pairs ++ pair ∷ rest) × IsPairFault h pair e

-- The answers to the first pairs were put, as many as `count` says.
pub record PutsPairs {W : Type 0} (step : W → W → Result ℕ Error → Type 0) (contents : W → Option (List ℕ)) (h : Hierarchy) (pairs : List (ℕ × ℕ)) (was now : Gathered) (old new : W) (result : Result ⊤ ServiceError) : Type 0 where
  pub count : ℕ
  pub text : List ℕ
  pub routed : Routed h (take count pairs) text
  pub puts : Puts step contents was now old new text
  pub ends : EndsAt h pairs count now result
