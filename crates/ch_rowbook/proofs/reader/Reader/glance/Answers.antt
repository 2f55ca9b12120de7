use Rattle.std.proofs.Common.{rules}
use Rattle.ch_rowbook.proofs.reader.Reader.glance.Goals as goal

pub returns-clause-rises : goal.returns-clause-rises
returns-clause-rises g c = search rules

pub returns-clause-front : goal.returns-clause-front
returns-clause-front g c = search rules

pub returns-clause-here : goal.returns-clause-here
returns-clause-here g c = search rules
