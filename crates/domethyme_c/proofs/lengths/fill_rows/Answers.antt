use Rattle.std.proofs.Common.{refl}
use Rattle.domethyme_c.specs.Answers.{AreAnswered.found}
use Rattle.domethyme_c.proofs.Tables.{written-rows}
use Rattle.domethyme_c.proofs.lengths.fill_rows.Goals as goal

pub returns-in-Ok-clause-answer : goal.returns-in-Ok-clause-answer
returns-in-Ok-clause-answer c = found refl (written-rows c.args.engine.now c.args.sources.now c.args.selection.now.targets c.args.lengths.now c.lengths.new.rows c.in-Ok.ensures.rows)
