use Rattle.std.proofs.Common.{◌≡◌, [], ◌∙◌, ap, map, sym, rules, arith}
use Rattle.std.proofs.lemmas.Iterator.Consumers.{YieldsList-end}
use Rattle.std.proofs.lemmas.Iterator.Adapters.{YieldsList-from_vec}
use Rattle.std.proofs.lemmas.Grind.{common_steps}
use Rattle.ch_workers.proofs.ListPlaces.{map_same, all_of_maps}
use Rattle.ch_workers.proofs.boxed.box_lists.Goals as goal

pub returns-clause-untold : goal.returns-clause-untold
returns-clause-untold g c =
    let done = YieldsList-end (YieldsList-from_vec {s = c.into_iter-list-iterator.result} c.args.lists.items (search rules) (search rules)) c.lists.yielded c.lists.list-iterator c.lists.yielded_by c.next.result c.next.new.self c.in-None.is c.next.ensures.steps in
    all_of_maps (λ v. v.items) (λ v. v.items) (λ b. b.inner) (λ e. (goal.Estimator-dyn g (e.vtable, e.value)).heard e.value ≡ []) c.lists.made.items c.args.lists.items
    (c.lists.invariant.0 ∙ ap (map (λ v. v.items)) (sym (map_same c.lists.yielded) ∙ done.0))
    c.requires.untold

pub lists-preserved : goal.lists-preserved
lists-preserved c = grind (arith, common_steps) steps 200000

pub lists-smaller : goal.lists-smaller
lists-smaller c = grind (arith, common_steps) steps 200000
