use Rattle.std.proofs.Common.{ℕ, ◌≡◌, ◌<◌, All, List, length, map, sym, subst, ap, ◌∙◌, arith}
use Rattle.std.specs.Prelude.{slice_index_or}
use Rattle.std.specs.List.{zip}
use Rattle.std.specs.Arc.{arc_value}
use Rattle.std.proofs.lemmas.Grind.{common_steps}
use Rattle.ch_cost.specs.declared.cost.Cost.{Cost}
use Rattle.ch_laws.specs.Contraction.{State}
use Rattle.ch_laws.specs.Rows.{Row}
use Rattle.ch_overlay.specs.Change.{puts, changed_nodes}
use Rattle.ch_overlay.specs.Records.{IsSoundRow, recorded_row}
use Rattle.ch_rowbook.specs.Showing.{IsShowable}
use Rattle.ch_contract.specs.Ledger.{versions_now}
use Rattle.ch_contract.specs.Planned.{AreNewVersions}
use Rattle.ch_contract.proofs.LedgerInBook.{from_map, laid_count, laid_versions, rising_pairs, showable_above, still_in_book}
use Rattle.ch_contract.proofs.board.Board.contract.Goals as goal

-- each new row is of a node and can be relied on
sound : (g : _) (c : goal.After-rows-2 g) → All (λ a. (a.0 < length c.self.inside.ledger.overlay.rows) × IsSoundRow c.self.inside.ledger.overlay.bound a.0 (arc_value a.1)) c.rows-2.result.now
sound g c =
    let l = c.self.inside.ledger in
    let change = c.in_ok-planned.planned.change in
    from_map (λ (a : ℕ × Row). (a.0 < length l.overlay.rows) × IsSoundRow l.overlay.bound a.0 a.1) (λ a. (a.0, arc_value a.1)) c.rows-2.result.now change.rows c.rows-2.ensures
    (c.changes_are_sound.ensures l.overlay change c.holds.ensures.overlay (c.args.shortcuts.now, c.in_ok-planned.ensures.change))

pub lay_all-requires-clause-within : goal.lay_all-requires-clause-within
lay_all-requires-clause-within g c k d h =
    let inside = (sound g c k d h).0 in
    let nodes = c.self.invariant.nodes in
    omega (arith, inside, nodes)

pub lay_all-requires-clause-rows : goal.lay_all-requires-clause-rows
lay_all-requires-clause-rows g c k d h = subst (λ (b : Cost). IsSoundRow b (slice_index_or c.rows-2.result.now k d).0 (arc_value (slice_index_or c.rows-2.result.now k d).1)) (sym c.self.invariant.bound) (sound g c k d h).1

-- the versions are those of what was laid
versions_are : (g : _) (c : goal.After-as_slice-3 g) → c.as_slice-3.result.now ≡ map (λ r. r.token.index) c.in_ok-laid.laid.items
versions_are g c = c.as_slice-3.ensures.value ∙ c.in_ok-versions.ensures ∙ ap (λ l. map (λ r. r.token.index) l) c.as_slice.ensures.value

-- what was laid is the change
laid_are : (g : _) (c : goal.After-as_slice-3 g) → map (λ r. (r.node, recorded_row r.token.value)) c.in_ok-laid.laid.items ≡ c.in_ok-planned.planned.change.rows
laid_are g c = c.in_ok-laid.ensures.laid ∙ c.rows-2.ensures

pub enter-receipt-requires-clause-versions : goal.enter-receipt-requires-clause-versions
enter-receipt-requires-clause-versions g c =
    let l = c.self.inside.ledger in
    let p = c.in_ok-planned.planned in
    let laid = c.in_ok-laid.laid.items in
    let pen = c.lay_all.new.self in
    let showable : IsShowable pen.versions pen.next (map (λ r. r.token.index) laid) = c.in_ok-laid.ensures.showable in
    let earlier : pen.versions ≡ versions_now l = c.lay_all.ensures.versions ∙ c.self.invariant.versions in
    subst (λ (versions : List ℕ). AreNewVersions l p versions) (sym (versions_are g c)) (record {
      count = laid_count (λ r. r.node) (λ r. r.token.index) (λ r. recorded_row r.token.value) laid p.change.rows (laid_are g c);
      rising = rising_pairs showable.low (map (λ r. r.token.index) laid) pen.next showable.rising;
      above = subst (λ (old : List ℕ). All (λ a. All (λ b. a < b) (map (λ r. r.token.index) laid)) old) earlier (showable_above pen.versions pen.next (map (λ r. r.token.index) laid) showable);
    })

pub invariant_of-self-2 : goal.invariant_of-self-2
invariant_of-self-2 g c =
    let l = c.self.inside.ledger in
    let p = c.in_ok-planned.planned in
    let laid = c.in_ok-laid.laid.items in
    let new = c.enter-receipt.new.self in
    let pen = c.lay_all.new.self in
    let after = c.show_all.new.self in
    let done = c.enter-receipt.ensures.contracted c.args.node c.args.shortcuts.now c.in_ok-planned.ensures in
    let shown : c.as_slice-2.result.now ≡ laid = c.as_slice-2.ensures.value in
    let laid_are = c.in_ok-laid.ensures.laid ∙ c.rows-2.ensures in
    let versions_are = c.as_slice-3.ensures.value ∙ c.in_ok-versions.ensures ∙ ap (λ l. map (λ r. r.token.index) l) c.as_slice.ensures.value in
    let rows : after.rows ≡ new.overlay.rows =
    c.show_all.ensures.rows ∙ ap (λ r. puts pen.rows (map (λ r. (r.node, recorded_row r.token.value)) r)) shown ∙ ap (λ (rs : List Row). puts rs (map (λ r. (r.node, recorded_row r.token.value)) laid)) (c.lay_all.ensures.rows ∙ c.self.invariant.rows)
    ∙ ap (λ (cs : List (ℕ × Row)). puts l.overlay.rows cs) laid_are ∙ sym c.enter-receipt.ensures.rows in
    let versions : after.versions ≡ versions_now new =
    c.show_all.ensures.versions ∙ ap (λ r. puts pen.versions (map (λ r. (r.node, r.token.index)) r)) shown ∙ ap (λ (vs : List ℕ). puts vs (map (λ r. (r.node, r.token.index)) laid)) (c.lay_all.ensures.versions ∙ c.self.invariant.versions)
    ∙ ap (λ (cs : List (ℕ × ℕ)). puts (versions_now l) cs) (laid_versions (λ r. r.node) (λ r. r.token.index) (λ r. recorded_row r.token.value) laid p.change.rows laid_are)
    ∙ ap (λ (vs : List ℕ). puts (versions_now l) (zip (changed_nodes p.change) vs)) (sym versions_are) ∙ sym c.enter-receipt.ensures.versions in
    still_in_book g.S.Site.graph g.S.Book.book l c.self.inside.pen c.self.invariant new after c.holds.ensures c.holds-2.ensures done.contracts.graph (ap (λ (s : State). s.nodes) done.state) rows versions

pub enter-receipt-requires-clause-planned : goal.enter-receipt-requires-clause-planned
enter-receipt-requires-clause-planned g c = (c.args.node, c.args.shortcuts.now, c.in_ok-planned.ensures)

pub returns-clause-err : goal.returns-clause-err
returns-clause-err c = grind (arith, common_steps) steps 200000

pub returns-clause-ok : goal.returns-clause-ok
returns-clause-ok c = grind (arith, common_steps)
