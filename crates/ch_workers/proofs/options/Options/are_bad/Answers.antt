use Rattle.std.proofs.Common.{rules}
use Rattle.ch_workers.proofs.options.Options.are_bad.Goals as goal

pub returns-clause-bad : goal.returns-clause-bad
returns-clause-bad c = search rules

pub returns-clause-good : goal.returns-clause-good
returns-clause-good c = search rules
