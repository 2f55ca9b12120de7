use Rattle.std.proofs.Common.{◌≡◌, ◌++◌, Some, refl}
use Rattle.hierfile.specs.Spelling.{stem}
use Rattle.hierfile.specs.Fault.{magic_fault}
use Rattle.hierfile.specs.declared.error.HierError.TheVariants.{Truncated}
use Rattle.hierfile.proofs.PartAfterPart.{no_byte, hands_back, read_failed}
use Rattle.hierfile.proofs.reading.read_version.Goals as goal

pub returns-in_err-byte : goal.returns-in_err-byte
returns-in_err-byte g c = record { reads = hands_back c.from_residual.result _ _ _ c.from_residual.ensures.1 (read_failed g.R.StepRead.step g.R.Read.remaining (λ bytes. magic_fault (stem ++ bytes)) 1 (no_byte (λ came. magic_fault (stem ++ came) ≡ Some Truncated) refl) c.in_err-byte.ensures.reads) }
