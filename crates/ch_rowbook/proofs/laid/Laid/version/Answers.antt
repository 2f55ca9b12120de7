use Rattle.std.proofs.Common.{rules}
use Rattle.ch_rowbook.proofs.laid.Laid.version.Goals as goal

pub returns : goal.returns
returns g c = search rules
