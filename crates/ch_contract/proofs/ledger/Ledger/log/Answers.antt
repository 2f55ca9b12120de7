use Rattle.std.proofs.Common.{subst}
use Rattle.ch_contract.specs.Ledger.{Ledger, IsLog}
use Rattle.ch_contract.proofs.LogEntries.{log_of_ledger}
use Rattle.ch_contract.proofs.ledger.Ledger.log.Goals as goal

pub returns-clause-log : goal.returns-clause-log
returns-clause-log c = subst (λ (l : Ledger). IsLog l.log) c.self.view_is (log_of_ledger _ c.self.invariant.0)
