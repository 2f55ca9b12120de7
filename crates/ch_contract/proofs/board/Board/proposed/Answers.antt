use Rattle.std.proofs.Common.{Result, Err, ap, subst}
use Rattle.ch_contract.specs.declared.error.ProposeError.{ProposeError}
use Rattle.ch_contract.specs.Ledger.{Ledger}
use Rattle.ch_contract.specs.Commit.{IsShown}
use Rattle.ch_contract.specs.Proposal.{Proposal}
use Rattle.ch_contract.proofs.CurrentRows.{alive-unranked}
use Rattle.ch_contract.proofs.board.Board.proposed.Goals as goal

abbrev of_propose : ProposeError → Result Proposal ProposeError
of_propose e = Err e

pub unreachable-requires-in-Err-Contracted : goal.unreachable-requires-in-Err-Contracted
unreachable-requires-in-Err-Contracted g c =
    let is = ap of_propose c.in-Err-Contracted.field-0-is in
    let found = c.in-Err-Contracted.ensures.contracted (λ other. cc) (λ other. cc) in
    let shown = subst (λ (l : Ledger). IsShown l found.row) c.propose_with.ensures.stays found.shows in
    alive-unranked c.args.self.now c.holds.ensures.ledger.overlay c.args.node c.requires.alive found.row found.of_node shown (found.ranked.0 is)
