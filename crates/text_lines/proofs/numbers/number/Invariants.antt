use Rattle.std.proofs.Common.{◌≡◌, ◌^◌, ◌<◌, drop}
use Rattle.text_lines.proofs.DigitByDigit.{capped_after}
use Rattle.text_lines.proofs.numbers.number.Given as goal

abbrev pub invariant-loop-digit : goal.invariant-loop-digit
invariant-loop-digit l = record {
  fits : l.value < 2 ^ 64;
  told : capped_after l.value (drop l.digit-index l.field) ≡ capped_after 0 l.field;
}
