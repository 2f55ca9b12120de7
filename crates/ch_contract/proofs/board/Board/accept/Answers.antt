use Rattle.std.proofs.Common.{subst, rules}
use Rattle.ch_contract.specs.Ledger.{Ledger}
use Rattle.ch_contract.specs.Commit.{IsRefusal, NoneIsOld}
use Rattle.ch_contract.proofs.CurrentRows.{stale_told, current-not_stale}
use Rattle.ch_contract.proofs.board.Board.accept.Goals as goal

pub returns-in-Some-clause-stale : goal.returns-in-Some-clause-stale
returns-in-Some-clause-stale g c = stale_told c.args.self.now _ c.args.proposal.now c.in-Some.refused (subst (λ (l : Ledger). IsRefusal l c.args.proposal.now c.in-Some.refused) c.self.view_is c.in-Some.ensures.refused)

pub returns-in-Ok-clause-stale : goal.returns-in-Ok-clause-stale
returns-in-Ok-clause-stale g c node seen now front = (λ e. absurd (cc), λ stale. absurd (current-not_stale c.args.self.now c.args.proposal.now node seen now front (subst (λ (l : Ledger). NoneIsOld l c.args.proposal.now.rests_on) c.self.view_is c.in_default.ensures.up_to_date.current) stale))

pub returns-in-Err-OutOfMemory-clause-stale : goal.returns-in-Err-OutOfMemory-clause-stale
returns-in-Err-OutOfMemory-clause-stale g c node seen now front = (
  λ e. absurd (cc),
  λ stale. absurd (current-not_stale c.args.self.now c.args.proposal.now node seen now front
      (subst (λ (l : Ledger). NoneIsOld l c.args.proposal.now.rests_on) c.self.view_is c.in_default.ensures.up_to_date.current) stale),
)

pub returns-in-Err-Slot-clause-stale : goal.returns-in-Err-Slot-clause-stale
returns-in-Err-Slot-clause-stale g c node seen now front = (λ e. absurd (cc), λ stale. absurd (current-not_stale c.args.self.now c.args.proposal.now node seen now front (subst (λ (l : Ledger). NoneIsOld l c.args.proposal.now.rests_on) c.self.view_is c.in_default.ensures.up_to_date.current) stale))

pub returns-in-Ok-clause-ok : goal.returns-in-Ok-clause-ok
returns-in-Ok-clause-ok g c = search rules
