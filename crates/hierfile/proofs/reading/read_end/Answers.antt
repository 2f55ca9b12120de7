use Rattle.std.proofs.Common.{ℕ, ◌≡◌, List, [], ◌∷◌, None, Some, refl, arith}
use Rattle.std.proofs.lemmas.Bool.Decides.{nat_tests}
use Rattle.hierfile.specs.Fault.{end_fault}
use Rattle.hierfile.specs.declared.error.HierError.TheVariants.{Trailing}
use Rattle.hierfile.proofs.PartAfterPart.{no_byte, Takes, hands_back, read_failed, fault_found}
use Rattle.hierfile.proofs.reading.read_end.Goals as goal

trails : (b : ℕ) (rest : List ℕ) → end_fault (b ∷ rest) ≡ Some Trailing
trails b rest = grind (arith, nat_tests)

pub returns-in_err-byte : goal.returns-in_err-byte
returns-in_err-byte g c = record { reads = hands_back c.from_residual.result _ _ _ c.from_residual.ensures.1 (read_failed g.R.StepRead.step g.R.Read.remaining end_fault 1 (no_byte (λ came. end_fault came ≡ None) refl) c.in_err-byte.ensures.reads) }

pub returns-in-Some : goal.returns-in-Some
returns-in-Some g c =
    let step = g.R.StepRead.step in
    let remaining = g.R.Read.remaining in
    let took : Takes step remaining c.args.input.now c.byte.new.self c.args.reader.now c.byte.new.reader (c.in-Some.field-0 ∷ []) = rw c.in-Some.is at c.in_ok-byte.ensures.reads in
    record { reads = fault_found step remaining {P = ℕ} end_fault took (λ _ rest. trails c.in-Some.field-0 rest) 0 (λ is. absurd (cc)) (λ is. absurd (cc)) }
