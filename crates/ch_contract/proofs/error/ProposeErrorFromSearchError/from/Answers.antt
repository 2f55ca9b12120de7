use Rattle.std.proofs.Common.{rules}
use Rattle.ch_contract.proofs.error.ProposeErrorFromSearchError.from.Goals as goal

pub returns-in-Unseen : goal.returns-in-Unseen
returns-in-Unseen = search rules
