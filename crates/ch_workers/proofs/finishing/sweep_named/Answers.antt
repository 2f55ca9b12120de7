use Rattle.std.proofs.Common.{sym, subst, ◌∙◌}
use Rattle.ch_laws.specs.Contraction.{IsOver}
use Rattle.ch_overlay.specs.Overlay.{state_of}
use Rattle.ch_contract.specs.Ledger.{Ledger}
use Rattle.ch_workers.proofs.finishing.sweep_named.Goals as goal

pub returns-clause-over : goal.returns-clause-over
returns-clause-over g c = subst (λ (l : Ledger). IsOver (state_of l.overlay)) (sym c.into_parts-ledger.ensures.same) c.in_ok-receipts.ensures.swept.over

pub returns-clause-graph : goal.returns-clause-graph
returns-clause-graph g c = c.into_parts-ledger.ensures.named ∙ c.requires.of_graph
