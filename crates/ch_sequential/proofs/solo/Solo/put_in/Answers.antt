use Rattle.std.proofs.Common.{ℕ, ◌≡◌, ◌≤◌, ◌^◌, List, length, arith, ap, sym, subst, ◌∙◌}
use Rattle.std.specs.Arc.{arc_value}
use Rattle.std.proofs.lemmas.List.{length-map}
use Rattle.ch_contract.specs.Ledger.{Ledger, AreLawful}
use Rattle.ch_contract.specs.Planned.{AreNewVersions}
use Rattle.ch_sequential.proofs.Turns.{few_changes, room_left, versions_left}
use Rattle.ch_sequential.proofs.solo.Solo.put_in.Goals as goal

pub plan-requires : goal.plan-requires
plan-requires g c = subst (λ (l : Ledger). AreLawful l c.args.node c.args.shortcuts.now) (sym c.self.view_is) c.requires

pub versions_from-requires : goal.versions_from-requires
versions_from-requires g c =
    let count : length c.rows-count.result.now ≡ length c.in_ok-planned.planned.change.rows = sym (length-map c.rows-count.result.now (λ a. (a.0, arc_value a.1))) ∙ ap length c.rows-count.ensures in
    let few = few_changes c.changes_write_their_rows.ensures c.log.ensures.holds.overlay c.in_ok-planned.ensures.change in
    room_left c.self.invariant.1 c.log.ensures.log (subst (λ n. n ≤ 2 ^ 25) (sym count) few)

pub overflow_add-self : goal.overflow_add-self
overflow_add-self g c =
    let count : length c.rows-count.result.now ≡ length c.in_ok-planned.planned.change.rows = sym (length-map c.rows-count.result.now (λ a. (a.0, arc_value a.1))) ∙ ap length c.rows-count.ensures in
    let few = few_changes c.changes_write_their_rows.ensures c.log.ensures.holds.overlay c.in_ok-planned.ensures.change in
    let room = room_left c.self.invariant.1 c.log.ensures.log (subst (λ n. n ≤ 2 ^ 25) (sym count) few) in
    omega (arith, room)

pub enter-receipt-requires-clause-versions : goal.enter-receipt-requires-clause-versions
enter-receipt-requires-clause-versions g c =
    let l = c.self.inside.ledger in
    let count : length c.rows-count.result.now ≡ length c.in_ok-planned.planned.change.rows = sym (length-map c.rows-count.result.now (λ a. (a.0, arc_value a.1))) ∙ ap length c.rows-count.ensures in
    subst (λ (versions : List ℕ). AreNewVersions l c.in_ok-planned.planned versions) (sym c.as_slice.ensures.value) (c.in_ok-versions.ensures.new l c.in_ok-planned.planned count c.self.invariant.1.above)

pub invariant_of-self : goal.invariant_of-self
invariant_of-self g c =
    let count : length c.rows-count.result.now ≡ length c.in_ok-planned.planned.change.rows = sym (length-map c.rows-count.result.now (λ a. (a.0, arc_value a.1))) ∙ ap length c.rows-count.ensures in
    let few = few_changes c.changes_write_their_rows.ensures c.log.ensures.holds.overlay c.in_ok-planned.ensures.change in
    let done = c.enter-receipt.ensures.contracted c.args.node c.args.shortcuts.now c.in_ok-planned.ensures in (
      done.contracts.graph ∙ c.self.invariant.0,
      versions_left c.in_ok-planned.planned.change c.self.invariant.1 done (c.as_slice.ensures.value ∙ c.in_ok-versions.ensures.items) c.enter-receipt.ensures.versions (subst (λ n. n ≤ 2 ^ 25) (sym count) few),
    )
