use Rattle.std.proofs.Common.{ap, ◌∙◌}
use Rattle.ch_contract.specs.Proposal.{Proposal}
use Rattle.ch_contract.proofs.proposal.Proposal.rests_on.Goals as goal

pub returns-clause-rows : goal.returns-clause-rows
returns-clause-rows c = c.as_slice.ensures.value ∙ ap (λ (p : Proposal). p.rests_on) c.self.view_is
