use Rattle.std.proofs.Common.{ap, sym, subst, ◌∙◌}
use Rattle.ch_cost.specs.declared.cost.Cost.{Cost}
use Rattle.ch_overlay.specs.Overlay.{Overlay}
use Rattle.ch_overlay.specs.Source.{IsBound}
use Rattle.ch_sequential.proofs.Turns.{ledger_bound}
use Rattle.ch_sequential.proofs.rows.SoloRowSource.bound.Goals as goal

pub returns-clause-limit : goal.returns-clause-limit
returns-clause-limit g c = subst (λ (b : Cost). IsBound b) (sym (c.bound.ensures ∙ ap (λ (o : Overlay). o.bound) c.overlay.ensures)) (ledger_bound c.bounds_fit.ensures c.self.inside.ledger c.holds.ensures)
