use Rattle.std.proofs.Common.{rules}
use Rattle.ch_workers.proofs.trouble.Trouble.error.Goals as goal

pub returns-in-Mixed-clause-mixed : goal.returns-in-Mixed-clause-mixed
returns-in-Mixed-clause-mixed c = search rules

pub returns-in-Mixed-clause-good : goal.returns-in-Mixed-clause-good
returns-in-Mixed-clause-good c = search rules
