use Rattle.std.proofs.Common.{rules}
use Rattle.ch_rowbook.proofs.reader.ReaderRowSource.bound.Goals as goal

pub returns-clause-bound : goal.returns-clause-bound
returns-clause-bound g c = search rules

pub returns-clause-limit : goal.returns-clause-limit
returns-clause-limit g c = search rules
