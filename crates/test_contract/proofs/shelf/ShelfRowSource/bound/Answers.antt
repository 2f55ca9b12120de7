use Rattle.std.proofs.Common.{ℕ, ◌-◌, ◌^◌, ◌≤◌, arith, subst, sym}
use Rattle.ch_cost.specs.Cost.{cost_of_arcs}
use Rattle.ch_cost.specs.Cost.Laws.{within_trans, more_arcs_within, heavier_arcs_within}
use Rattle.ch_overlay.specs.Source.{IsBound}
use Rattle.test_contract.proofs.shelf.ShelfRowSource.bound.Goals as goal

few : (n w : ℕ) → n ≤ 2 ^ 25 - 1 → w ≤ 2 ^ 32 - 1 → IsBound (cost_of_arcs n w)
few n w h k = within_trans (more_arcs_within n (2 ^ 25 - 1) w h) (heavier_arcs_within (2 ^ 25 - 1) w (2 ^ 32 - 1) k)

pub returns-clause-limit : goal.returns-clause-limit
returns-clause-limit c = subst IsBound (sym c.of_arcs.ensures) (few _ _ (omega (arith, c.from.ensures)) (omega arith))
