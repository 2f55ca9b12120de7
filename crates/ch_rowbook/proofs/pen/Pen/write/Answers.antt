use Rattle.std.proofs.Common.{rules}
use Rattle.ch_rowbook.proofs.pen.Pen.write.Goals as goal

pub returns-clause-rows : goal.returns-clause-rows
returns-clause-rows g c = search rules

pub returns-clause-versions : goal.returns-clause-versions
returns-clause-versions g c = search rules
