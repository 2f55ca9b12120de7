use Rattle.std.proofs.Common.{rules}
use Rattle.ch_unpack.proofs.unpacking.turn_off.Goals as goal

pub returns-clause-in_room : goal.returns-clause-in_room
returns-clause-in_room c = search rules

pub returns-then-nodes-len-clause-too_long : goal.returns-then-nodes-len-clause-too_long
returns-then-nodes-len-clause-too_long c = search rules

pub returns-clause-half : goal.returns-clause-half
returns-clause-half c = search rules
