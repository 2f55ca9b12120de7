use Rattle.std.proofs.Common.{rules}
use Rattle.ch_multiqueue.proofs.pass.take_into.Goals as goal

pub returns-clause-least : goal.returns-clause-least
returns-clause-least c = search rules

pub returns-clause-some : goal.returns-clause-some
returns-clause-some c = search rules

pub returns-clause-list : goal.returns-clause-list
returns-clause-list c = search rules
