use Rattle.std.proofs.Common.{ℕ, List, Option, ◌≡◌, ◌∙◌, ◌↔◌, ◌&&◌, IsTrue, ap, sym, subst, take, drop}
use Rattle.std.specs.Box.{boxed_slice_items}
use Rattle.std.specs.Bool.{Decides}
use Rattle.ch_graph.specs.Middle.{same_middles-Decides}
use Rattle.ch_laws.specs.declared.entry.Entry.{Entry}
use Rattle.ch_laws.specs.Rows.{Row}
use Rattle.ch_overlay.proofs.SameRows.{entries_decide, row_decides}
use Rattle.ch_overlay.proofs.row.Row.is_same.Goals as goal

-- a row whose lists lie one behind the other
abbrev halved : ℕ → List Entry → Option ℕ → Row
halved outs arcs rank = record { out = take outs arcs; inn = drop outs arcs; rank = rank }

pub returns : goal.returns
returns c =
    let q : Row = halved c.self.inside.outs (boxed_slice_items c.self.inside.arcs) c.self.inside.rank in
    let r : Row = halved c.other.inside.outs (boxed_slice_items c.other.inside.arcs) c.other.inside.rank in
    let ranks = subst (λ b. Decides b (q.rank ≡ r.rank)) (sym c.eq.ensures) (same_middles-Decides q.rank r.rank) in
    let outs = entries_decide q.out r.out c.out.result.now c.out-2.result.now c.eq-2.result (c.out.ensures ∙ ap (λ (x : Row). x.out) (sym c.self.view_is)) (c.out-2.ensures ∙ ap (λ (x : Row). x.out) (sym c.other.view_is)) c.eq-2.ensures in
    let inns = entries_decide q.inn r.inn c.inn.result.now c.inn-2.result.now c.eq-3.result (c.inn.ensures ∙ ap (λ (x : Row). x.inn) (sym c.self.view_is)) (c.inn-2.ensures ∙ ap (λ (x : Row). x.inn) (sym c.other.view_is)) c.eq-3.ensures in
    subst (λ (x : Row). IsTrue ((c.eq.result && c.eq-2.result) && c.eq-3.result) ↔ (x ≡ c.args.other.now)) c.self.view_is
    (subst (λ (x : Row). IsTrue ((c.eq.result && c.eq-2.result) && c.eq-3.result) ↔ (q ≡ x)) c.other.view_is
    (row_decides q r c.eq.result c.eq-2.result c.eq-3.result ranks outs inns))
