use Rattle.std.proofs.Common.{◌∙◌, sym, rules, arith}
use Rattle.std.proofs.lemmas.Iterator.Consumers.{YieldsList-end}
use Rattle.std.proofs.lemmas.Iterator.Adapters.{YieldsList-from_vec}
use Rattle.std.proofs.lemmas.Grind.{common_steps}
use Rattle.ch_workers.proofs.ListPlaces.{map_same}
use Rattle.ch_workers.proofs.boxed.boxes_of.Goals as goal

pub returns : goal.returns
returns g c =
    let done = YieldsList-end (YieldsList-from_vec {s = c.into_iter-estimator-iterator.result} c.args.estimators.items (search rules) (search rules)) c.estimators.yielded c.estimators.estimator-iterator c.estimators.yielded_by c.next.result c.next.new.self c.in-None.is c.next.ensures.steps in
    record { same = c.estimators.invariant ∙ (sym (map_same c.estimators.yielded) ∙ done.0) }

pub estimators-preserved : goal.estimators-preserved
estimators-preserved c = grind (arith, common_steps) steps 200000

pub estimators-smaller : goal.estimators-smaller
estimators-smaller c = grind (arith, common_steps) steps 200000
