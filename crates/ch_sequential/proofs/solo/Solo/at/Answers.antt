use Rattle.std.proofs.Common.{length, ap, ◌∙◌}
use Rattle.ch_overlay.specs.Overlay.{Overlay}
use Rattle.ch_sequential.proofs.Turns.{versions_start}
use Rattle.ch_sequential.proofs.solo.Solo.at.Goals as goal

pub invariant_of-result : goal.invariant_of-result
invariant_of-result g c = (c.requires.graph, versions_start c.requires c.holds.ensures (c.from-next.ensures ∙ c.nodes.ensures.count ∙ ap (λ (o : Overlay). length o.rows) c.overlay.ensures))
