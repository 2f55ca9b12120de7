use Rattle.std.proofs.Common.{◌<◌, length, arith, sym, subst}
use Rattle.ch_core.specs.World.{World, View}
use Rattle.ch_core.specs.Keeping.{IsWorld}
use Rattle.ch_core.proofs.Views.{with_view, world_forgets}
use Rattle.ch_core.proofs.world.World.forget.Goals as goal

pub invariant_of-self : goal.invariant_of-self
invariant_of-self c =
    let w : World = record { ledger = c.self.inside.ledger; book = c.self.inside.book.items; views = c.self.inside.views.items } in
    let inside : c.args.worker < length w.views = omega (arith, c.len.ensures, c.self.inside.views.ok) in
    subst (λ (v : View). IsWorld (with_view w c.args.worker v)) (sym c.clear.ensures) (world_forgets w c.args.worker inside c.self.invariant)
