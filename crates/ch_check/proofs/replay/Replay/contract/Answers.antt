use Rattle.std.proofs.Common.{◌≡◌, ◌<◌, ◌+◌, ◌++◌, ◌∷◌, [], ℕ, List, All, length, arith, ap, sym, subst, ◌∙◌}
use Rattle.std.specs.List.{range_with_len}
use Rattle.std.specs.Arc.{arc_value}
use Rattle.std.proofs.lemmas.List.{length-map, length_push}
use Rattle.std.proofs.lemmas.List.FromFn.{length-range_with_len}
use Rattle.ch_laws.specs.Contraction.{State, contracted}
use Rattle.ch_overlay.specs.Overlay.{state_of}
use Rattle.ch_overlay.specs.Change.{changed_nodes}
use Rattle.ch_overlay.specs.Versions.{versions-above, versions-next, versions-rise}
use Rattle.ch_check.specs.Replay.{Replay, MayPut}
use Rattle.ch_check.proofs.Replaying.{few_changes, replay_goes_on}
use Rattle.ch_check.proofs.replay.Replay.contract.Goals as goal

versions : (c : goal.After-drop-versions) → c.as_slice.result.now ≡ range_with_len c.self.inside.next (length c.rows-count.result.now)
versions c = c.as_slice.ensures.value ∙ c.in_ok-versions.ensures

counted : (c : goal.After-drop-versions) → length c.rows-count.result.now ≡ length c.in_ok-change.change.rows
counted c = sym (length-map c.rows-count.result.now (λ a. (a.0, arc_value a.1))) ∙ ap length c.rows-count.ensures

pub apply-requires-clause-count : goal.apply-requires-clause-count
apply-requires-clause-count c = ap length (c.as_slice.ensures.value ∙ c.in_ok-versions.ensures) ∙ length-range_with_len c.self.inside.next (length c.rows-count.result.now) ∙ sym (length-map c.rows-count.result.now (λ a. (a.0, arc_value a.1))) ∙ ap length c.rows-count.ensures

pub apply-requires-clause-rising : goal.apply-requires-clause-rising
apply-requires-clause-rising c = versions-rise _ _ _ (c.as_slice.ensures.value ∙ c.in_ok-versions.ensures)

pub apply-requires-clause-above : goal.apply-requires-clause-above
apply-requires-clause-above c = versions-above _ _ _ (c.as_slice.ensures.value ∙ c.in_ok-versions.ensures) c.self.inside.overlay.versions c.self.invariant.1.above

abbrev before : goal.After-drop-versions → Replay
before c = record { graph = c.self.inside.graph.now; overlay = c.self.inside.overlay }

may : (c : goal.After-drop-versions) → MayPut c.self.inside.overlay c.in_ok-change.change.node c.args.shortcuts.now
may c = subst (λ (x : ℕ). MayPut c.self.inside.overlay x c.args.shortcuts.now) (sym c.in_ok-change.ensures.node) (subst (λ (r : Replay). MayPut r.overlay c.args.node c.args.shortcuts.now) (sym c.self.view_is) c.requires)

made : (c : goal.After-drop-versions) → state_of c.apply.new.self ≡ contracted (state_of c.self.inside.overlay) c.in_ok-change.change.node c.args.shortcuts.now
made c = c.apply.ensures.state c.args.shortcuts.now c.in_ok-change.ensures.change

order : (c : goal.After-drop-versions) → c.apply.new.self.order ≡ c.self.inside.overlay.order ++ c.in_ok-change.change.node ∷ []
order c = ap (λ (s : State). s.order) (made c)

pub invariant_of-self : goal.invariant_of-self
invariant_of-self c =
    let few = few_changes c.changes_write_their_rows.ensures c.nodes.ensures.holds c.in_ok-change.ensures.change in
    let long : length c.apply.new.self.order ≡ length c.self.inside.overlay.order + 1 = ap length (order c) ∙ length_push c.self.inside.overlay.order c.in_ok-change.change.node in
    let old = c.self.invariant.1.few in (
      replay_goes_on c.plan_is_lawful.ensures c.reached_goes_on.ensures c.self.invariant.0 (may c) c.in_ok-change.ensures.change c.apply.ensures.holds c.apply.ensures.bound (made c),
      record {
        above = subst (λ (vs : List ℕ). All (λ v. v < c.self.inside.next + length c.rows-count.result.now) vs) (sym c.apply.ensures.versions) (versions-next _ _ _ (versions c) (changed_nodes c.in_ok-change.change) c.self.inside.overlay.versions c.self.invariant.1.above);
        few = omega (arith, old, few, long, counted c);
      },
    )
