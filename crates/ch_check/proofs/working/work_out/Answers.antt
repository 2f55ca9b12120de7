use Rattle.std.proofs.Common.{sym, subst}
use Rattle.std.proofs.lemmas.Result.{on_ok_weaker}
use Rattle.ch_cost.specs.declared.cost.Cost.{Cost}
use Rattle.ch_laws.specs.Contraction.{IsAlive}
use Rattle.ch_overlay.specs.Overlay.{Overlay, state_of}
use Rattle.ch_overlay.specs.Source.{IsBound}
use Rattle.ch_check.specs.Pairs.{AreJoined, IsOpenRow}
use Rattle.ch_check.proofs.Joining.{may_put, none_kept}
use Rattle.ch_check.proofs.working.work_out.Goals as goal

pub open_row-row-requires : goal.open_row-row-requires
open_row-row-requires c =
    subst (λ (o : Overlay). IsAlive (state_of o) c.args.node) (sym c.overlay-overlay.ensures) c.requires.alive

pub join_all-requires-clause-task : goal.join_all-requires-clause-task
join_all-requires-clause-task c = record {
  bound = subst (λ (o : Overlay). IsBound o.bound) (sym c.overlay-overlay.ensures)
      (subst (λ (b : Cost). IsBound b) (sym c.holds.ensures.bound)
      (c.bounds_fit.ensures c.args.replay.now.graph c.holds.ensures.graph));
  row = c.open_row-row.ensures;
}

pub join_all-requires-clause-kept : goal.join_all-requires-clause-kept
join_all-requires-clause-kept c = none_kept c.overlay-overlay.result.now _ c.clear.ensures.rows

pub returns : goal.returns
returns c = on_ok_weaker c.join_all.result (λ joined.
    let row = c.open_row-row.result.now in
    let put = c.join_all.new.buffers.shortcuts.items in
    may_put c.verdicts_are_lawful.ensures c.holds.ensures
    (subst (λ (o : Overlay). IsOpenRow o c.args.node row) c.overlay-overlay.ensures c.open_row-row.ensures)
    (subst (λ (o : Overlay). AreJoined o c.args.node row row.inn put) c.overlay-overlay.ensures joined)) c.join_all.ensures
