use Rattle.std.proofs.Common.{All, Contains, take}
use Rattle.ch_laws.specs.declared.entry.Entry.{Entry}
use Rattle.ch_check.specs.Comparing.{link_out}
use Rattle.ch_check.proofs.comparing.compare_out.Given as goal

abbrev pub invariant-outs : goal.invariant-outs
invariant-outs l = All (λ (e : Entry). Contains l.hierarchy.links (link_out l.node e)) (take l.entry-index l.outs)
