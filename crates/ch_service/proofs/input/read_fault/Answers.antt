use Rattle.std.proofs.Common.{rules}
use Rattle.ch_service.proofs.input.read_fault.Goals as goal

pub returns : goal.returns
returns c = search rules
