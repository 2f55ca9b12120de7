use Rattle.std.proofs.Common.{rules}
use Rattle.ch_rowbook.proofs.reader.Reader.same_record.Goals as goal

pub returns-clause-row : goal.returns-clause-row
returns-clause-row g c = search rules

pub returns-clause-node : goal.returns-clause-node
returns-clause-node g c = search rules
