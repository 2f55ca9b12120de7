use Rattle.std.proofs.Common.{ℕ, ◌≡◌, ◌<◌, List, [], ◌∷◌, ◌++◌, length, map, All, arith, sym, ◌∙◌, ap, subst}
use Rattle.std.specs.Arc.{arc_value}
use Rattle.std.specs.List.{zip}
use Rattle.std.proofs.lemmas.List.{get_or-map, length-map, with_items_is}
use Rattle.std.proofs.lemmas.List.Elements.{All-map}
use Rattle.std.proofs.lemmas.Grind.{common_steps}
use Rattle.ch_cost.specs.declared.cost.Cost.{Cost}
use Rattle.ch_laws.specs.Rows.{Row}
use Rattle.ch_overlay.specs.Overlay.{Overlay, IsOverlay, no_arcs, state_of}
use Rattle.ch_overlay.specs.Change.{AreRenewed, Change, changed_nodes, puts}
use Rattle.ch_overlay.proofs.ChangedOverlay.{state-applied, overlay-applied, changes_write}
use Rattle.ch_overlay.proofs.SeveralWrites.{length-puts, map-puts, all-mapped}
use Rattle.ch_laws.specs.Members.{map-map}
use Rattle.ch_overlay.proofs.NewVersions.{renewed}
use Rattle.ch_overlay.specs.Order.{order_has_room}
use Rattle.ch_overlay.proofs.overlay.Overlay.apply.Goals as goal

holds_first : (c : goal.After-as_slice) → IsOverlay c.args.self.now
holds_first c = subst (λ (o : Overlay). IsOverlay o) c.self.view_is c.self.invariant.0

pub put_versions-requires-clause-in_range : goal.put_versions-requires-clause-in_range
put_versions-requires-clause-in_range c =
    let all = (changes_write c.args.self.now c.args.change (holds_first c) c.requires.planned).in_range in
    let shown = subst (λ (ch : Change). All (λ (a : ℕ × Row). a.0 < length c.args.self.now.rows) ch.rows) (sym c.change.view_is) all in
    let inside = all-mapped (λ (a : ℕ × Row). a.0 < length c.args.self.now.rows) (λ a. (a.0, arc_value a.1)) c.change.inside.rows.items shown in
    let long = (holds_first c).versions in
    let versions = ap (λ (o : Overlay). length o.versions) c.self.view_is in
    λ k d h.
    let there = subst (λ xs. All (λ a. a.0 < length c.args.self.now.rows) xs) (sym c.as_slice.ensures.value) inside k d h in
    omega (arith, there, long, versions, ap length c.as_mut_slice.ensures.value)

pub put_rows-requires : goal.put_rows-requires
put_rows-requires c =
    let holds = subst (λ (o : Overlay). IsOverlay o) c.self.view_is c.self.invariant.0 in
    let all = (changes_write c.args.self.now c.args.change holds c.requires.planned).in_range in
    let shown = subst (λ (ch : Change). All (λ (a : ℕ × Row). a.0 < length c.args.self.now.rows) ch.rows) (sym c.change.view_is) all in
    let inside = all-mapped (λ (a : ℕ × Row). a.0 < length c.args.self.now.rows) (λ a. (a.0, arc_value a.1)) c.change.inside.rows.items shown in
    let rows = ap (λ (o : Overlay). length o.rows) c.self.view_is in
    λ k d h.
    let there = inside k d h in
    omega (arith, there, rows, length-map c.self.inside.rows.items arc_value, ap length c.as_mut_slice-2.ensures.value)

pub push_reserved-requires : goal.push_reserved-requires
push_reserved-requires c =
    let holds = subst (λ (o : Overlay). IsOverlay o) c.self.view_is c.self.invariant.0 in
    let room = order_has_room c.args.self.now c.args.change.node holds c.requires.planned.1.plan.alive in
    let order = ap (λ (o : Overlay). length o.order) c.self.view_is in
    let rows = ap (λ (o : Overlay). length o.rows) c.self.view_is in
    omega (arith, room, order, rows, length-map c.self.inside.rows.items arc_value, c.self.inside.order.ok, c.self.invariant.1)

rows_len : (c : goal.After-push_reserved) → length c.put_rows.new.all ≡ c.self.inside.rows.len
rows_len c = omega (arith, c.put_rows.auto.all, c.as_mut_slice-2.ensures.len)

versions_len : (c : goal.After-push_reserved) → length c.put_versions.new.all ≡ c.self.inside.versions.len
versions_len c = omega (arith, c.put_versions.auto.all, c.as_mut_slice.ensures.len)

pub returns-clause-rows : goal.returns-clause-rows
returns-clause-rows c =
    ap (λ xs. map arc_value xs) (with_items_is c.self.inside.rows c.put_rows.new.all (rows_len c) ∙ c.put_rows.ensures)
    ∙ ap (λ xs. map arc_value (puts xs c.change.inside.rows.items)) c.as_mut_slice-2.ensures.value
    ∙ map-puts arc_value c.change.inside.rows.items c.self.inside.rows.items
    ∙ ap (λ (o : Overlay). puts o.rows (map (λ a. (a.0, arc_value a.1)) c.change.inside.rows.items)) c.self.view_is
    ∙ ap (λ (ch : Change). puts c.args.self.now.rows ch.rows) c.change.view_is

pub returns-clause-versions : goal.returns-clause-versions
returns-clause-versions c =
    let nodes : map (λ a. a.0) c.as_slice.result.now ≡ changed_nodes c.args.change =
    ap (λ xs. map (λ a. a.0) xs) c.as_slice.ensures.value
    ∙ sym (map-map (λ a. (a.0, arc_value a.1)) (λ (a : ℕ × Row). a.0) c.change.inside.rows.items)
    ∙ ap changed_nodes c.change.view_is in
    with_items_is c.self.inside.versions c.put_versions.new.all (versions_len c) ∙ c.put_versions.ensures
    ∙ ap (λ xs. puts xs (zip (map (λ a. a.0) c.as_slice.result.now) c.args.versions.now)) (c.as_mut_slice.ensures.value ∙ ap (λ (o : Overlay). o.versions) c.self.view_is)
    ∙ ap (λ xs. puts c.args.self.now.versions (zip xs c.args.versions.now)) nodes

pub returns-clause-renewed : goal.returns-clause-renewed
returns-clause-renewed c =
    let o = c.args.self.now in
    let nodes : List ℕ = changed_nodes c.args.change in
    let holds = subst (λ (o : Overlay). IsOverlay o) c.self.view_is c.self.invariant.0 in
    let writes = changes_write o c.args.change holds c.requires.planned in
    let many : length c.args.versions.now ≡ length nodes = c.requires.count ∙ sym (length-map c.args.change.rows (λ (a : ℕ × Row). a.0)) in
    subst (λ (vs : List ℕ). AreRenewed nodes o.versions vs) (sym (returns-clause-versions c))
    (renewed nodes c.args.versions.now o.versions many
    (λ i j d low high same.
    let long = length-map c.args.change.rows (λ (a : ℕ × Row). a.0) in
    let at = λ (k : ℕ) (h : k < length c.args.change.rows). get_or-map (λ (a : ℕ × Row). a.0) c.args.change.rows k (d, no_arcs) d h in
    writes.once i j (d, no_arcs) low (omega (arith, high, long)) (sym (at i (omega (arith, low, high, long))) ∙ same ∙ at j (omega (arith, high, long))))
    (λ k d h. omega (arith, All-map (λ x. x < length o.rows) (λ (a : ℕ × Row). a.0) c.args.change.rows writes.in_range k d h, holds.versions))
    c.requires.above)

-- the fields are those of the overlay after the change
order_is : (c : goal.After-push_reserved) → c.push_reserved.new.self.items ≡ c.args.self.now.order ++ c.args.change.node ∷ []
order_is c =
    c.push_reserved.ensures.items
    ∙ ap (λ (o : Overlay). o.order ++ c.change.inside.node ∷ []) c.self.view_is
    ∙ ap (λ (ch : Change). c.args.self.now.order ++ ch.node ∷ []) c.change.view_is

pub returns-clause-state : goal.returns-clause-state
returns-clause-state c put is =
    let holds = subst (λ (o : Overlay). IsOverlay o) c.self.view_is c.self.invariant.0 in
    ap (λ rows. state_of (record { bound = c.args.self.now.bound; rows = rows; versions = []; order = c.push_reserved.new.self.items })) (returns-clause-rows c)
    ∙ ap (λ order. state_of (record { bound = c.args.self.now.bound; rows = puts c.args.self.now.rows c.args.change.rows; versions = []; order = order })) (order_is c)
    ∙ state-applied c.args.self.now holds put c.args.change is c.updated_rows_are_the_next.ensures c.rows_are_the_state.ensures []

overlay_along : (versions : List ℕ) (b bound : Cost) (rows all : List Row) (first order : List ℕ) → b ≡ bound → rows ≡ all → first ≡ order
    → IsOverlay (record { bound = bound; rows = all; versions = versions; order = order }) → IsOverlay (record { bound = b; rows = rows; versions = versions; order = first })
overlay_along versions b bound rows all first order bounds both orders holds =
    subst (λ (x : Cost). IsOverlay (record { bound = x; rows = rows; versions = versions; order = first })) (sym bounds)
    (subst (λ (xs : List Row). IsOverlay (record { bound = bound; rows = xs; versions = versions; order = first })) (sym both)
    (subst (λ (xs : List ℕ). IsOverlay (record { bound = bound; rows = all; versions = versions; order = xs })) (sym orders) holds))

pub invariant_of-self : goal.invariant_of-self
invariant_of-self c =
    let holds = subst (λ (o : Overlay). IsOverlay o) c.self.view_is c.self.invariant.0 in
    let planned = c.requires.planned in
    let long = ap length (returns-clause-versions c) ∙ length-puts (zip (changed_nodes c.args.change) c.args.versions.now) c.args.self.now.versions in
    let new = overlay-applied c.args.self.now holds planned.0 c.args.change planned.1 c.updated_rows_are_the_next.ensures c.rows_are_the_state.ensures _ long in
    let rows = with_items_is c.self.inside.rows c.put_rows.new.all (rows_len c) in (
      overlay_along _ _ _ _ _ _ _ (ap (λ (o : Overlay). o.bound) c.self.view_is) (returns-clause-rows c) (order_is c) new,
      omega (arith, ap length rows, rows_len c, c.self.inside.rows.ok, c.self.invariant.1, c.push_reserved.ensures.capacity),
    )

pub returns-clause-holds : goal.returns-clause-holds
returns-clause-holds c = (invariant_of-self c).0

pub put_versions-requires-clause-count : goal.put_versions-requires-clause-count
put_versions-requires-clause-count c = grind (arith, common_steps) steps 200000
