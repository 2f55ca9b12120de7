use Rattle.ch_graph.specs.Hierarchy.{Hierarchy}
use Rattle.ch_graph.proofs.LinkTests.{next_made}
use Rattle.ch_graph.proofs.checking.first_bad_link.Goals as goal

pub links-preserved : goal.links-preserved
links-preserved c =
    let h : Hierarchy = record { version = c.args.version; ranks = c.args.ranks.now; links = c.args.links.now; bound = c.args.bound } in
    next_made h c.links.place _ _ c.links-test.true c.index-links-place.is c.links.invariant (c.is_link_well_made.ensures.0 c.if-not-is_link_well_made.false)
