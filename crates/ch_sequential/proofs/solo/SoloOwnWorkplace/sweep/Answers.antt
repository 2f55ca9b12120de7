use Rattle.std.proofs.Common.{arith, sym, subst, ◌∙◌}
use Rattle.ch_laws.specs.Contraction.{IsOver}
use Rattle.ch_overlay.specs.Overlay.{state_of}
use Rattle.ch_contract.specs.Ledger.{Ledger}
use Rattle.ch_sequential.proofs.Turns.{gone_more, over_at_last}
use Rattle.ch_sequential.proofs.solo.SoloOwnWorkplace.sweep.Goals as goal

pub nodes-preserved : goal.nodes-preserved
nodes-preserved g c = (c.nodes.invariant.0 ∙ sym c.in_ok-visit.ensures.nodes, gone_more c.nodes.solo c.visit.new.self c.nodes.node c.nodes.invariant.1 c.in_ok-visit.ensures.gone c.in_ok-visit.ensures.still)

pub returns-clause-over : goal.returns-clause-over
returns-clause-over g c = subst (λ (l : Ledger). IsOver (state_of l.overlay)) (sym c.solo-2.view_is) (over_at_last c.nodes.solo c.nodes.node c.nodes.invariant.1 (omega (arith, c.nodes.invariant.0)))
