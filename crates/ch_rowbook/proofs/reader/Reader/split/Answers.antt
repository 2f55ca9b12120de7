use Rattle.std.proofs.Common.{rules}
use Rattle.ch_rowbook.proofs.reader.Reader.split.Goals as goal

pub returns-clause-new : goal.returns-clause-new
returns-clause-new g c = search rules
