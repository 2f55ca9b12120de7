use Rattle.std.proofs.Common.{◌+◌, arith, sym, ◌∙◌}
use Rattle.std.proofs.lemmas.List.{take_rest}
use Rattle.text_lines.proofs.DigitByDigit.{digits_before, digits_more}
use Rattle.text_lines.proofs.plain.number_before.Goals as goal

pub returns-then-not-is_ascii_digit : goal.returns-then-not-is_ascii_digit
returns-then-not-is_ascii_digit c =
    let text = c.args.text.now in
    digits_before c.args.stop text _ c.loop-i.i c.loop-i.number c.loop-i-test.true (omega arith) c.loop-i.invariant (omega arith) (take_rest text (c.loop-i.i + 1))

pub loop-i-preserved : goal.loop-i-preserved
loop-i-preserved c =
    digits_more c.args.text.now c.loop-i.i c.loop-i.number _ c.loop-i-test.true c.loop-i.invariant (sym c.is_ascii_digit.ensures.value ∙ c.if-not-is_ascii_digit.false) (omega arith)
