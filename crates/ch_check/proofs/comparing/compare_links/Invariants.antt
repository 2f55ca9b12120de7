use Rattle.std.proofs.Common.{All, take}
use Rattle.ch_check.specs.Comparing.{IsArc}
use Rattle.ch_check.proofs.comparing.compare_links.Given as goal

abbrev pub invariant-links : goal.invariant-links
invariant-links l = All (IsArc l.overlay) (take l.link-index l.hierarchy.links)
