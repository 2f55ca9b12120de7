use Rattle.std.proofs.Common.{subst, sym}
use Rattle.ch_cost.specs.Cost.Laws.{within_refl}
use Rattle.ch_overlay.specs.Source.{IsBound}
use Rattle.test_kit.proofs.rows.bound.Goals as goal

pub returns : goal.returns
returns c = subst IsBound (sym c.of_arcs.ensures) (within_refl _)
