use Rattle.std.proofs.Common.{sym, subst}
use Rattle.std.proofs.lemmas.Result.{on_ok_weaker}
use Rattle.ch_cost.specs.declared.cost.Cost.{Cost}
use Rattle.ch_overlay.specs.Source.{IsBound}
use Rattle.ch_check.proofs.Joining.{may_put, none_kept}
use Rattle.ch_check.proofs.anew.work_out_anew.Goals as goal

pub join_all-requires-clause-task : goal.join_all-requires-clause-task
join_all-requires-clause-task c = record {
  bound = subst (λ (b : Cost). IsBound b) (sym c.requires.reached.1.bound) (c.bounds_fit.ensures c.requires.reached.0 c.requires.reached.1.graph);
  row = c.open_row-row.ensures;
  some = c.requires.some;
  few = c.requires.few;
}

pub join_all-requires-clause-kept : goal.join_all-requires-clause-kept
join_all-requires-clause-kept c = none_kept c.args.overlay.now _ c.clear.ensures.rows

pub returns : goal.returns
returns c = on_ok_weaker c.join_all.result (λ joined. may_put c.verdicts_are_lawful.ensures c.requires.reached.1 c.open_row-row.ensures joined) c.join_all.ensures
