use Rattle.std.proofs.Common.{◌<◌, length, arith, sym, subst}
use Rattle.ch_cost.specs.Cost.{IsInLimit}
use Rattle.ch_laws.specs.declared.entry.Entry.{Entry}
use Rattle.ch_witness.proofs.FollowedArcs.{followed_more}
use Rattle.ch_witness.proofs.follow.follow.Goals as goal

pub follow_arc-requires-clause-entry : goal.follow_arc-requires-clause-entry
follow_arc-requires-clause-entry c =
    subst (λ (e : Entry). IsInLimit e.cost) (sym c.entry-item.is) (c.requires.entries c.loop-entry.entry-index c.entry-item.result (omega (arith, c.loop-entry-test.true)))

pub loop-entry-preserved : goal.loop-entry-preserved
loop-entry-preserved c = followed_more _ within (sym c.entry-item.is) c.in_ok-follow_arc.ensures c.loop-entry.invariant where
  within : c.loop-entry.entry-index < length c.args.entries.now
  within = omega (arith, c.loop-entry-test.true)
