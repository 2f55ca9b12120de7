use Rattle.std.proofs.Common.{Option, Some, None, IfNone, IfSome, subst}
use Rattle.ch_contract.specs.Commit.{IsContractedYet, NoneIsOld, IsUpToDate, IsRefusal}
use Rattle.ch_core.specs.World.{World}
use Rattle.ch_core.specs.Keeping.{IsWorld}
use Rattle.ch_core.proofs.Lawful.{all_current}
use Rattle.ch_core.proofs.world.World.refusal.Goals as goal

-- what follows where there is none
none_so : {A : Type 0} {P Q : Type 0} (o : Option A) → (P → Q) → IfNone o P → IfNone o Q
none_so None so is = so is
none_so (Some x) so is = tt

pub returns-clause-waits : goal.returns-clause-waits
returns-clause-waits c = none_so _ (λ (is : IsUpToDate c.self.inside.ledger c.args.proposal.now). subst (λ (w : World). IsContractedYet w.ledger c.args.proposal.now → ⊥) c.self.view_is is.waits) c.refusal.ensures.up_to_date

pub returns-clause-current : goal.returns-clause-current
returns-clause-current c =
    let w = c.args.self.now in
    let is : IsWorld w = subst (λ (v : World). IsWorld v) c.self.view_is c.self.invariant in
    none_so _ (λ (is_new : IsUpToDate c.self.inside.ledger c.args.proposal.now). all_current w is c.args.worker c.args.proposal.now.rests_on c.requires.rows (subst (λ (v : World). NoneIsOld v.ledger c.args.proposal.now.rests_on) c.self.view_is is_new.current)) c.refusal.ensures.up_to_date

pub returns-clause-refused : goal.returns-clause-refused
returns-clause-refused c = subst (λ (w : World). IfSome c.refusal.result (λ error. IsRefusal w.ledger c.args.proposal.now error)) c.self.view_is c.refusal.ensures.refused
