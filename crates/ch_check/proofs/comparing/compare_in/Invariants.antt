use Rattle.std.proofs.Common.{All, Contains, take}
use Rattle.ch_laws.specs.declared.entry.Entry.{Entry}
use Rattle.ch_check.specs.Comparing.{link_in}
use Rattle.ch_check.proofs.comparing.compare_in.Given as goal

abbrev pub invariant-inns : goal.invariant-inns
invariant-inns l = All (λ (e : Entry). Contains l.hierarchy.links (link_in l.node e)) (take l.entry-index l.inns)
