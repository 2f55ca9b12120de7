use Rattle.std.proofs.Common.{◌≤◌, All, List, length, subst}
use Rattle.std.proofs.lemmas.List.{take_all}
use Rattle.ch_graph.specs.declared.link.Link.{Link}
use Rattle.ch_check.specs.Comparing.{IsArc}
use Rattle.ch_check.proofs.Tests.{more_of}
use Rattle.ch_check.proofs.comparing.compare_links.Goals as goal

pub links-preserved : goal.links-preserved
links-preserved c = more_of (IsArc c.args.overlay.now) c.links-link-items.ensures.links c.links.link-index _ c.links-test.true c.links.invariant c.link-item.is (c.is_arc.ensures c.if-not-is_arc.false)

pub returns : goal.returns
returns c =
    let past = subst (λ (ls : List Link). length ls ≤ c.links.link-index) c.links-link-items.ensures.links c.links-test.false in
    subst (λ (ls : List Link). All (IsArc c.args.overlay.now) ls) (take_all c.links.link-index c.args.hierarchy.now.links past) c.links.invariant
