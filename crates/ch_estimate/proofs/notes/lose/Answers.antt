use Rattle.std.proofs.Common.{rules}
use Rattle.ch_estimate.proofs.notes.lose.Goals as goal

pub returns-clause-notes : goal.returns-clause-notes
returns-clause-notes c = search rules
