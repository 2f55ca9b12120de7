use Rattle.std.proofs.Common.{rules, arith}
use Rattle.std.proofs.lemmas.Grind.{common_steps}
use Rattle.ch_contract.specs.declared.contraction.Receipt.{Receipt}
use Rattle.ch_contract.specs.declared.error.CommitError.TheVariants as commits
use Rattle.ch_contract.proofs.CurrentRows.{done-apart, same_refusal}
use Rattle.ch_contract.proofs.board.Board.commit_ready.Goals as goal

pub returns-in-Ok-clause-stale : goal.returns-in-Ok-clause-stale
returns-in-Ok-clause-stale g c node seen now front = (λ e. absurd (cc), λ stale. absurd (done-apart _ _ _ ((c.in-Ok.ensures.stale node seen now front).1 stale)))

pub returns-in-Err-clause-stale : goal.returns-in-Err-clause-stale
returns-in-Err-clause-stale g c node seen now front =
    let told = c.in-Err.ensures.stale node seen now front in
    let same = same_refusal _ Receipt c.in-Err.refused (commits.Stale node seen now front) in
    (λ e. told.0 (same.1 e), λ stale. same.0 (told.1 stale))

pub returns-in-Ok-clause-seen : goal.returns-in-Ok-clause-seen
returns-in-Ok-clause-seen g c = search rules

pub returns-in-Err-clause-err : goal.returns-in-Err-clause-err
returns-in-Err-clause-err c = grind (arith, common_steps) steps 200000

pub returns-in-Err-clause-ok : goal.returns-in-Err-clause-ok
returns-in-Err-clause-ok c = grind (arith, common_steps) steps 200000

pub returns-in-Err-clause-seen : goal.returns-in-Err-clause-seen
returns-in-Err-clause-seen c = grind (arith, common_steps) steps 200000

pub returns-in-Err-clause-unseen : goal.returns-in-Err-clause-unseen
returns-in-Err-clause-unseen c = grind (arith, common_steps) steps 200000

pub returns-in-Ok-clause-err : goal.returns-in-Ok-clause-err
returns-in-Ok-clause-err c = grind (arith, common_steps) steps 200000

pub returns-in-Ok-clause-ok : goal.returns-in-Ok-clause-ok
returns-in-Ok-clause-ok c = grind (arith, common_steps) steps 200000

pub returns-in-Ok-clause-risen : goal.returns-in-Ok-clause-risen
returns-in-Ok-clause-risen c = grind (arith, common_steps) steps 200000

pub returns-in-Ok-clause-unseen : goal.returns-in-Ok-clause-unseen
returns-in-Ok-clause-unseen c = grind (arith, common_steps) steps 200000
