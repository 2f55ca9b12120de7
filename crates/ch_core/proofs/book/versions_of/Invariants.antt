use Rattle.std.proofs.Common.{◌≡◌, map, take}
use Rattle.std.specs.Arc.{arc_value}
use Rattle.ch_core.specs.World.{version_of}
use Rattle.ch_core.proofs.book.versions_of.Given as goal

abbrev pub invariant-rows : goal.invariant-rows
invariant-rows l = l.fresh.items ≡ map (λ a. version_of (a.0, arc_value a.1)) (take l.node-index l.rows)
