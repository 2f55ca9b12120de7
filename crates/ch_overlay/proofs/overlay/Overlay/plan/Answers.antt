use Rattle.std.proofs.Common.{ℕ, ◌≡◌, ◌<◌, List, Bor, All, length, map, arith, sym, ◌∙◌, ap, subst}
use Rattle.std.specs.Arc.{arc_value}
use Rattle.std.proofs.lemmas.List.{length-map}
use Rattle.ch_laws.specs.Rows.{Row, Rises}
use Rattle.ch_overlay.specs.declared.row.Row as declared
use Rattle.ch_overlay.specs.Overlay.{Overlay, IsOverlay, row_at}
use Rattle.ch_overlay.specs.Prepared.{AreNamed, IsPrepared}
use Rattle.ch_overlay.proofs.NamedNeighbours.{row_rises, named_in, near_rise, near_fit}
use Rattle.ch_overlay.proofs.overlay.Overlay.plan.Goals as goal

pub named-requires-clause-out_rises : goal.named-requires-clause-out_rises
named-requires-clause-out_rises c =
    let holds = subst (λ (o : Overlay). IsOverlay o) c.self.view_is c.self.invariant.0 in
    subst (λ (r : Row). Rises r.out) (sym (c.deref.ensures ∙ c.row-row.ensures)) (row_rises c.args.self.now holds c.args.node c.requires.alive.in_range).0

pub named-requires-clause-inn_rises : goal.named-requires-clause-inn_rises
named-requires-clause-inn_rises c =
    let holds = subst (λ (o : Overlay). IsOverlay o) c.self.view_is c.self.invariant.0 in
    subst (λ (r : Row). Rises r.inn) (sym (c.deref.ensures ∙ c.row-row.ensures)) (row_rises c.args.self.now holds c.args.node c.requires.alive.in_range).1

pub near_rows-requires : goal.near_rows-requires
near_rows-requires c k d h =
    let holds = subst (λ (o : Overlay). IsOverlay o) c.self.view_is c.self.invariant.0 in
    let named = subst (λ (r : Row). AreNamed r c.in_ok-nodes.nodes.items) (c.deref.ensures ∙ c.row-row.ensures) c.in_ok-nodes.ensures in
    let inside = named_in c.args.self.now holds c.args.node c.requires.alive.in_range c.in_ok-nodes.nodes.items named in
    let there = subst (λ xs. All (λ x. x < length c.args.self.now.rows) xs) (sym c.as_slice-2.ensures.value) inside k d h in
    omega (arith, there, ap length (ap (map arc_value) c.as_slice.ensures.value ∙ ap (λ (o : Overlay). o.rows) c.self.view_is), length-map c.as_slice.result.now arc_value)

pub prepare-requires-clause-few : goal.prepare-requires-clause-few
prepare-requires-clause-few c =
    let holds = subst (λ (o : Overlay). IsOverlay o) c.self.view_is c.self.invariant.0 in
    omega (arith, c.requires.alive.in_range, holds.few_nodes)

pub prepare-requires-clause-once : goal.prepare-requires-clause-once
prepare-requires-clause-once c = c.requires.once

-- the rows that are passed are the overlay's
rows_are : (all rows : List Row) (near passed : List (ℕ × Bor declared.Row)) → all ≡ rows → passed ≡ near → All (λ (a : ℕ × Bor declared.Row). a.1.now ≡ row_at all a.0) near
    → All (λ (a : ℕ × Bor declared.Row). a.1.now ≡ row_at rows a.0) passed
rows_are all rows near passed same is each =
    subst (λ xs. All (λ (a : ℕ × Bor declared.Row). a.1.now ≡ row_at rows a.0) xs) (sym is)
    (subst (λ (rs : List Row). All (λ (a : ℕ × Bor declared.Row). a.1.now ≡ row_at rs a.0) near) same each)

pub prepare-requires-clause-rising : goal.prepare-requires-clause-rising
prepare-requires-clause-rising c =
    let o = c.args.self.now in
    let nodes = c.in_ok-nodes.nodes.items in
    let holds = subst (λ (o : Overlay). IsOverlay o) c.self.view_is c.self.invariant.0 in
    let named = subst (λ (r : Row). AreNamed r nodes) (c.deref.ensures ∙ c.row-row.ensures) c.in_ok-nodes.ensures in
    let are : map (λ (a : ℕ × Bor declared.Row). a.0) c.as_slice-3.result.now ≡ nodes =
    ap (map (λ (a : ℕ × Bor declared.Row). a.0)) c.as_slice-3.ensures.value ∙ c.in_ok-near.ensures.nodes ∙ c.as_slice-2.ensures.value in
    let rows = rows_are (map arc_value c.as_slice.result.now) o.rows c.in_ok-near.near.items c.as_slice-3.result.now (ap (map arc_value) c.as_slice.ensures.value ∙ ap (λ (o : Overlay). o.rows) c.self.view_is) c.as_slice-3.ensures.value c.in_ok-near.ensures.rows in
    near_rise o holds c.args.node c.requires.alive.in_range nodes named c.as_slice-3.result.now are rows

pub returns-clause-node : goal.returns-clause-node
returns-clause-node c = c.in_ok-change.ensures.node ∙ c.in_ok-prepared.ensures.of_node

pub returns-clause-change : goal.returns-clause-change
returns-clause-change c =
    let o = c.args.self.now in
    let put = c.args.shortcuts.now in
    let near = c.as_slice-3.result.now in
    let nodes = c.in_ok-nodes.nodes.items in
    let row_is = c.deref.ensures ∙ c.row-row.ensures in
    let holds = subst (λ (o : Overlay). IsOverlay o) c.self.view_is c.self.invariant.0 in
    let named = subst (λ (r : Row). AreNamed r nodes) row_is c.in_ok-nodes.ensures in
    let are : map (λ (a : ℕ × Bor declared.Row). a.0) near ≡ nodes =
    ap (map (λ (a : ℕ × Bor declared.Row). a.0)) c.as_slice-3.ensures.value ∙ c.in_ok-near.ensures.nodes ∙ c.as_slice-2.ensures.value in
    let rows = rows_are (map arc_value c.as_slice.result.now) o.rows c.in_ok-near.near.items near (ap (map arc_value) c.as_slice.ensures.value ∙ ap (λ (o : Overlay). o.rows) c.self.view_is) c.as_slice-3.ensures.value c.in_ok-near.ensures.rows in
    let made = subst (λ (r : Row). IsPrepared c.args.node r (map (λ (a : ℕ × Bor declared.Row). (a.0, a.1.now)) near) put c.in_ok-prepared.prepared) (c.deref-2.ensures ∙ c.row-row.ensures) c.in_ok-prepared.ensures in
    c.in_ok-change.ensures.change put (near_fit o holds c.args.node c.requires.alive.in_range nodes named near are rows put c.in_ok-prepared.prepared c.requires made)
