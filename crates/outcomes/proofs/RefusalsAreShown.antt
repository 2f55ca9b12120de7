-- A refusal has a status with which a line is printed.
use Rattle.std.proofs.Common.{◌<◌, arith, inl, inr}
use Rattle.outcomes.specs.Causes.{status_of}
use Rattle.outcomes.specs.Outcomes.{IsQuiet}
use Rattle.outcomes.specs.declared.cause.Cause.{Cause}
use Rattle.outcomes.specs.declared.cause.Cause.TheVariants as causes

within : (cause : Cause) → (1 < status_of cause) × (status_of cause < 9)
within causes.Memory = omega arith
within cause = omega arith

pub loud : (cause : Cause) → IsQuiet (status_of cause) → ⊥
loud cause (inl is) = omega (arith, within cause, is)
loud cause (inr (inl is)) = omega (arith, within cause, is)
loud cause (inr (inr is)) = omega (arith, within cause, is)
