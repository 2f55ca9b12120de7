use Rattle.std.proofs.Common.{take}
use Rattle.ch_overlay.specs.Opening.{AreOpening}
use Rattle.ch_overlay.proofs.opening.rows_of.Given as goal

-- the rows have the arcs so far
abbrev pub invariant-loop-arc : goal.invariant-loop-arc
invariant-loop-arc l = AreOpening (take l.arc-index l.arcs) l.from l.fn.count l.rows.items
