use Rattle.std.proofs.Common.{rules}
use Rattle.ch_workers.proofs.alone.build_alone.Goals as goal

pub returns-clause-leases : goal.returns-clause-leases
returns-clause-leases g c = search rules
