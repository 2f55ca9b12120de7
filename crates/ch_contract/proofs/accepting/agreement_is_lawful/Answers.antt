use Rattle.ch_contract.proofs.AgreeingProposals.{agrees-lawful}
use Rattle.ch_contract.proofs.accepting.agreement_is_lawful.Goals as goal

pub returns : goal.returns
returns c l p is made agrees = agrees-lawful c.verdicts_are_lawful.ensures l is p made agrees
