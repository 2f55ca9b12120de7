use Rattle.std.proofs.Common.{rules}
use Rattle.ch_service.proofs.error.ServiceError.cause.Goals as goal

pub returns-in-Write : goal.returns-in-Write
returns-in-Write c = search rules
