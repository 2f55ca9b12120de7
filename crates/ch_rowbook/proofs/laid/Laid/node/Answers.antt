use Rattle.std.proofs.Common.{rules}
use Rattle.ch_rowbook.proofs.laid.Laid.node.Goals as goal

pub returns-clause-node : goal.returns-clause-node
returns-clause-node g c = search rules
