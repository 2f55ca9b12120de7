use Rattle.std.proofs.Common.{take}
use Rattle.ch_table.specs.Laying.{AreMarkedWith}
use Rattle.ch_table.proofs.columns.mark_tails.Given as goal

abbrev pub invariant-falls : goal.invariant-falls
invariant-falls l = AreMarkedWith (take l.fall-index l.falls) l.initial.marks.items l.marks.items
