use Rattle.std.proofs.Common.{rules}
use Rattle.performing.proofs.StatusOfOutcome.{told, wants_memory, unwritten}
use Rattle.performing.proofs.answering.answer_alone.Goals as goal

pub returns : goal.returns
returns g c =
    told c.answer.result _ _ c.answer.ensures.fewest
    (c.causes_tell_refusals.ensures.answers _ _ _ _ _ _ _ _ c.answer.result (λ _. search rules) c.answer.ensures.refused)

pub returns-in_err-leases : goal.returns-in_err-leases
returns-in_err-leases g c = wants_memory c.from_residual.result _ _ c.from_residual.ensures.1 (unwritten _ _ _ _ (search rules))
