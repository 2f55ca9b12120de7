use Rattle.std.proofs.Common.{All, ap, sym, subst, ◌∙◌}
use Rattle.ch_graph.specs.Graph.{Graph}
use Rattle.ch_graph.specs.Hierarchy.{IsRight}
use Rattle.ch_graph.specs.Limits.{bound_of}
use Rattle.ch_overlay.specs.Overlay.{Overlay}
use Rattle.ch_check.specs.Comparing.{AreLinked, IsArc}
use Rattle.ch_check.proofs.Replaying.{right_by_replay}
use Rattle.ch_check.proofs.Outcomes.{on_both}
use Rattle.ch_check.proofs.checking.replay_all.Goals as goal

pub returns : goal.returns
returns g c =
    let h = c.args.hierarchy.now in
    let done = c.in_ok-contract_all.ensures in
    let graph = done.graph ∙ c.in_ok-replay.ensures.graph in
    on_both c.compare.result (λ linked arcs.
    subst (λ (k : Graph). IsRight k h) graph
    (right_by_replay c.reached_hierarchy_is_right.ensures c.holds.ensures c.nodes.ensures.made c.in_ok-order.ensures
    (done.order ∙ c.deref.ensures.value)
    (c.requires.nodes ∙ sym c.in_ok-replay.ensures.nodes ∙ sym done.nodes)
    c.requires.version
    (c.requires.bound ∙ ap (λ (k : Graph). bound_of k) (sym graph))
    (subst (λ (o : Overlay). AreLinked h.links o) c.overlay.ensures linked)
    (subst (λ (o : Overlay). All (IsArc o) h.links) c.overlay.ensures arcs))) c.compare.ensures.linked c.compare.ensures.arcs
