use Rattle.std.proofs.Common.{rules}
use Rattle.jobs.proofs.workers.Workers.none.Goals as goal

pub returns : goal.returns
returns c = search rules
