use Rattle.std.proofs.Common.{rules}
use Rattle.ch_contract.proofs.accepting.newer.Goals as goal

pub returns : goal.returns
returns c = search rules
