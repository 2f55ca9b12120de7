use Rattle.std.proofs.Common.{arith}
use Rattle.std.proofs.lemmas.List.{take_rest}
use Rattle.text_lines.proofs.DigitByDigit.{letter_front}
use Rattle.text_lines.proofs.plain.after_letter.Goals as goal

pub returns : goal.returns
returns c = letter_front c.args.text.now _ c.args.letter (omega arith) (omega arith) (omega arith) (take_rest c.args.text.now 2)
