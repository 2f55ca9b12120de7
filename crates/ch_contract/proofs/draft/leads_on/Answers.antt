use Rattle.std.proofs.Common.{rules}
use Rattle.ch_contract.proofs.draft.leads_on.Goals as goal

pub returns : goal.returns
returns c = search rules
