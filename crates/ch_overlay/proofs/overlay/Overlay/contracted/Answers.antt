use Rattle.std.proofs.Common.{length, arith, ap, subst}
use Rattle.ch_overlay.specs.Overlay.{Overlay, IsOverlay}
use Rattle.ch_overlay.specs.Order.{order_fits}
use Rattle.ch_overlay.proofs.overlay.Overlay.contracted.Goals as goal

pub overflow_cast-result : goal.overflow_cast-result
overflow_cast-result c =
    let holds = subst (λ (o : Overlay). IsOverlay o) c.self.view_is c.self.invariant.0 in
    let order = ap (λ (o : Overlay). length o.order) c.self.view_is in
    omega (arith, c.len.ensures, order, order_fits c.args.self.now holds, holds.few_nodes, c.self.inside.order.ok)
