use Rattle.text_lines.proofs.DigitByDigit.{AreDigits}
use Rattle.text_lines.proofs.plain.number_before.Given as goal

abbrev pub invariant-loop-i : goal.invariant-loop-i
invariant-loop-i l = AreDigits l.text l.i l.number
