use Rattle.std.proofs.Common.{rules}
use Rattle.ch_estimate.proofs.edge_difference.edge_difference.Goals as goal

pub returns-clause-value : goal.returns-clause-value
returns-clause-value c = search rules
