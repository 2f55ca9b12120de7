use Rattle.std.proofs.Common.{sym, subst}
use Rattle.ch_laws.specs.Contraction.{IsOver}
use Rattle.ch_overlay.specs.Overlay.{Overlay, state_of}
use Rattle.ch_contract.proofs.finish.plain_hierarchy_of.Goals as goal

pub parts_of-requires : goal.parts_of-requires
parts_of-requires c = subst (λ (o : Overlay). IsOver (state_of o)) (sym c.overlay.ensures) (c.is_over.ensures.over.0 c.if-not-is_over.false)
