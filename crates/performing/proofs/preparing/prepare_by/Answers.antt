use Rattle.std.proofs.Common.{◌≡◌, rules, vec_len, arith, sym, ◌∙◌}
use Rattle.ch_workers.specs.Options.{AreGood}
use Rattle.performing.proofs.OneForEach.{all_for}
use Rattle.performing.proofs.StatusOfOutcome.{told, wants_memory}
use Rattle.performing.proofs.preparing.prepare_by.Goals as goal

-- each estimator is one that was made for an order and a lease

pub prepare_beside-requires-clause-untold : goal.prepare_beside-requires-clause-untold
prepare_beside-requires-clause-untold g c _ _ k d h = all_for _ _ (λ order thing made. made.1.2) _ _ (c.in_ok-lists.ensures.made k d h)

pub prepare_sequential-requires-clause-untold : goal.prepare_sequential-requires-clause-untold
prepare_sequential-requires-clause-untold g c _ _ k d h = all_for _ _ (λ order thing made. made.1.2) _ _ (c.in_ok-lists.ensures.made k d h)

-- by workers

pub returns-in-Some : goal.returns-in-Some
returns-in-Some g c =
    let asked = c.prepare_beside in
    let is = asked.ensures.prepared in
    told asked.result _ _ is.prepares (c.causes_tell_refusals.ensures.prepared _ _ _ _ _ _ asked.result (λ _. search rules) is.refused)

-- or on the calling thread, by the options of one

pub returns : goal.returns
returns g c =
    let asked = c.prepare_sequential in
    let is = asked.ensures.prepared in
    let options = c.options-options.result in
    let good = c.options-options.ensures.good in
    let one : c.unwrap_or-workers.result.count ≡ 1 = search rules in
    let a_list : vec_len c.in_ok-lists.lists ≡ 1 = c.in_ok-lists.ensures.count ∙ sym good.a_list_each ∙ one in
    let alone : AreGood (record options { workers = 1 }) (vec_len c.in_ok-lists.lists) = record {
      workers = omega arith;
      heaps = good.heaps;
      settle = good.settle;
      defer = good.defer;
      turns = good.turns;
      stint = good.stint;
      a_list_each = a_list;
    } in
    told asked.result _ _ is.prepares (c.causes_tell_refusals.ensures.prepared (record options { workers = 1 }) (vec_len c.in_ok-lists.lists) _ _ _ _ asked.result (λ _. alone) is.refused)

pub returns-in_err-leases : goal.returns-in_err-leases
returns-in_err-leases g c = wants_memory c.from_residual.result _ _ c.from_residual.ensures.1 (search rules)

pub returns-in_err-lists : goal.returns-in_err-lists
returns-in_err-lists g c = wants_memory c.from_residual-in_err-lists.result _ _ c.from_residual-in_err-lists.ensures.1 (search rules)
