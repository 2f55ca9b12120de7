use Rattle.std.proofs.Common.{◌≡◌, ◌∙◌, ◌<◌, ◌+◌, ◌*◌, ℕ, length, Some, sym, ap, arith, rules}
use Rattle.std.proofs.lemmas.Bool.{eqb-false}
use Rattle.text_lines.specs.Numbers.{capped}
use Rattle.text_lines.proofs.DigitByDigit.{capped_after-more, capped_after-stop, capped_after-end, capped_after-start}
use Rattle.text_lines.proofs.numbers.number.Goals as goal

pub loop-digit-preserved : goal.loop-digit-preserved
loop-digit-preserved c =
    let same : capped c.saturating_add-value.result ≡ capped (10 * c.loop-digit.value + c.from.result) = omega (arith, c.saturating_mul.ensures, c.saturating_add-value.ensures) in
    record {
      fits = c.saturating_add-value.type_inv;
      told = capped_after-more c.loop-digit.value c.saturating_add-value.result c.args.field.now c.loop-digit.digit-index c.loop-digit-test.true (sym c.is_ascii_digit.ensures.value ∙ c.if-not-is_ascii_digit.false) (rw c.from.ensures at same) ∙ c.loop-digit.invariant.told;
    }

pub returns-then-not-is_ascii_digit : goal.returns-then-not-is_ascii_digit
returns-then-not-is_ascii_digit c =
    let field = c.args.field.now in
    let some : 0 < length field = omega (arith, eqb-false (length field) 0 (sym c.is_empty.ensures ∙ c.if-is_empty.false)) in
    sym (capped_after-stop c.loop-digit.value field c.loop-digit.digit-index c.loop-digit-test.true (sym c.is_ascii_digit.ensures.value ∙ c.if-not-is_ascii_digit.true)) ∙ c.loop-digit.invariant.told ∙ sym (capped_after-start field some)

pub returns : goal.returns
returns c =
    let field = c.args.field.now in
    let some : 0 < length field = omega (arith, eqb-false (length field) 0 (sym c.is_empty.ensures ∙ c.if-is_empty.false)) in
    let fits : c.loop-digit.value ≡ capped c.loop-digit.value = omega (arith, c.loop-digit.invariant.fits) in
    ap (λ (n : ℕ). Some n) fits ∙ sym (capped_after-end c.loop-digit.value field c.loop-digit.digit-index c.loop-digit-test.false) ∙ c.loop-digit.invariant.told ∙ sym (capped_after-start field some)

pub returns-then-is_empty : goal.returns-then-is_empty
returns-then-is_empty c = search rules
