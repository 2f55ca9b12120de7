use Rattle.std.proofs.Common.{rules}
use Rattle.ch_core.proofs.view.ViewRowSource.row_of.Goals as goal

pub returns-clause-unseen : goal.returns-clause-unseen
returns-clause-unseen c = search rules
