use Rattle.std.proofs.Common.{ℕ, List, ◌∷◌, length, map, Some, sym, ◌∙◌, ap, subst}
use Rattle.std.specs.Arc.{arc_value}
use Rattle.ch_laws.specs.Rows.{Row}
use Rattle.ch_overlay.specs.Overlay.{Overlay, IsOverlay}
use Rattle.ch_overlay.specs.Prepared.{Prepared}
use Rattle.ch_overlay.specs.Change.{IsChange}
use Rattle.ch_overlay.proofs.NamedNeighbours.{change_is}
use Rattle.ch_overlay.proofs.overlay.Overlay.plan_by.Goals as goal

pub returns-clause-rows : goal.returns-clause-rows
returns-clause-rows c =
    let node = c.prepared.inside.node in
    let others : List (ℕ × Row) = map (λ a. (a.0, arc_value a.1)) c.prepared.inside.others.items in
    ap (map (λ a. (a.0, arc_value a.1))) c.in_ok-insert.ensures.items
    ∙ ap (λ (r : Row). (node, r) ∷ others) (c.in_ok-ranked.ensures ∙ ap (λ (n : ℕ). record c.prepared.inside.row { rank = Some n }) c.contracted.ensures)
    ∙ ap (λ (p : Prepared). (p.node, record p.row { rank = Some (length c.args.self.now.order) }) ∷ p.others) c.prepared.view_is

pub returns-clause-change : goal.returns-clause-change
returns-clause-change c put fits =
    let o = c.args.self.now in
    let p = c.args.prepared in
    let holds = subst (λ (o : Overlay). IsOverlay o) c.self.view_is c.self.invariant.0 in
    let made : IsChange o put (record { node = p.node; rows = (p.node, record p.row { rank = Some (length o.order) }) ∷ p.others }) =
    change_is c.rows_of_alive_nodes_show_what_remains.ensures o holds put p fits in
    subst (λ n. IsChange o put (record { node = n; rows = map (λ a. (a.0, arc_value a.1)) c.insert.new.self.items })) (sym (ap (λ (p : Prepared). p.node) c.prepared.view_is))
    (subst (λ (rows : List (ℕ × Row)). IsChange o put (record { node = p.node; rows = rows })) (sym (returns-clause-rows c)) made)
