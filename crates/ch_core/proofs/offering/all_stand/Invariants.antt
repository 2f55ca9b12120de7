use Rattle.std.proofs.Common.{All, take}
use Rattle.ch_core.specs.World.{StandsIn}
use Rattle.ch_core.proofs.offering.all_stand.Given as goal

abbrev pub invariant-rows : goal.invariant-rows
invariant-rows l = All (StandsIn l.view) (take l.seen-index l.rows)
