use Rattle.std.proofs.Common.{subst}
use Rattle.ch_overlay.specs.Source.{IsBound}
use Rattle.ch_contract.specs.Ledger.{Ledger}
use Rattle.ch_sequential.proofs.Turns.{ledger_bound}
use Rattle.ch_sequential.proofs.rows.SoloRowSource.row_of.Goals as goal

pub returns-clause-bound : goal.returns-clause-bound
returns-clause-bound g c = subst (λ (l : Ledger). IsBound l.overlay.bound) c.self.view_is (ledger_bound c.bounds_fit.ensures c.self.inside.ledger c.holds.ensures)
