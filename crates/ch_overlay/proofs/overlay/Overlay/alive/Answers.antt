use Rattle.std.proofs.Common.{length, arith, ap}
use Rattle.std.specs.Arc.{arc_value}
use Rattle.std.proofs.lemmas.List.{length-map}
use Rattle.ch_overlay.specs.Overlay.{Overlay}
use Rattle.ch_overlay.specs.Order.{order_fits}
use Rattle.ch_overlay.proofs.overlay.Overlay.alive.Goals as goal

pub overflow_sub-result : goal.overflow_sub-result
overflow_sub-result c =
    omega (arith, order_fits _ c.self.invariant.0, length-map c.self.inside.rows.items arc_value, c.self.inside.rows.ok, c.self.inside.order.ok, c.len.ensures, c.len-2.ensures)

pub returns : goal.returns
returns c =
    let order = ap (λ (o : Overlay). length o.order) c.self.view_is in
    let rows = ap (λ (o : Overlay). length o.rows) c.self.view_is in
    omega (arith, order_fits _ c.self.invariant.0, order, rows, length-map c.self.inside.rows.items arc_value, c.self.inside.rows.ok, c.self.inside.order.ok, c.len.ensures, c.len-2.ensures)
