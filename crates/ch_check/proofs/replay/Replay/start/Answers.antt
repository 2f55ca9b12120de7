use Rattle.std.proofs.Common.{◌<◌, List, ℕ, All, arith, sym, subst, ◌∙◌}
use Rattle.ch_check.proofs.Replaying.{replay_starts, starts_below}
use Rattle.ch_check.proofs.replay.Replay.start.Goals as goal

pub invariant_of-result : goal.invariant_of-result
invariant_of-result c =
    let made = c.in_ok-overlay.ensures in (
      replay_starts c.nodes-2.ensures.graph c.nodes.ensures.holds made.start made.bound,
      record {
        above = subst (λ (vs : List ℕ). All (λ v. v < c.from-next.result) vs) (sym made.versions) (starts_below (c.from-next.ensures ∙ c.nodes-2.ensures.count));
        few = omega (arith, c.nodes-2.ensures.graph.few_nodes, c.nodes-2.ensures.count, c.from-next.ensures);
      },
    )
