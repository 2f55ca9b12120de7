use Rattle.std.proofs.Common.{rules}
use Rattle.ch_query.proofs.limit.is_below.Goals as goal

pub returns-in-Some : goal.returns-in-Some
returns-in-Some c = search rules
