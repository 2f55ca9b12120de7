use Rattle.std.proofs.Common.{rules}
use Rattle.ch_service.proofs.error.ServiceErrorFromBuildError.from.Goals as goal

pub returns : goal.returns
returns c = search rules
