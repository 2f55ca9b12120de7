use Rattle.std.proofs.Common.{rules, arith}
use Rattle.std.proofs.lemmas.Grind.{common_steps}
use Rattle.grfile.proofs.TextInPieces.{counts_one}
use Rattle.grfile.proofs.pieces.end_line.Goals as goal

pub returns-then-is_empty-clause-lines : goal.returns-then-is_empty-clause-lines
returns-then-is_empty-clause-lines g c = counts_one c.take_line.result c.args.progress.now.line c.take_line.new.progress.line c.take_line.ensures.line

pub returns-clause-takes : goal.returns-clause-takes
returns-clause-takes g c = search rules

pub returns-in_err-take_line-clause-takes : goal.returns-in_err-take_line-clause-takes
returns-in_err-take_line-clause-takes g c = search rules

pub returns-clause-lines : goal.returns-clause-lines
returns-clause-lines c = grind (arith, common_steps) steps 200000

pub returns-then-is_empty-clause-empty : goal.returns-then-is_empty-clause-empty
returns-then-is_empty-clause-empty c = grind (arith, common_steps) steps 200000

pub returns-then-is_empty-clause-takes : goal.returns-then-is_empty-clause-takes
returns-then-is_empty-clause-takes c = grind (arith, common_steps)
