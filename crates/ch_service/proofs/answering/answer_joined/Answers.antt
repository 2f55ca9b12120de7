use Rattle.std.proofs.Common.{rules, List, ℕ, ap, inl, sym, subst, ◌∙◌, Some}
use Rattle.std.proofs.lemmas.Result.{err_from_is_err_and}
use Rattle.ch_service.specs.Outcome.{StopsInJoined, of_whole}
use Rattle.ch_service.proofs.JoinedLines.{parts_refused}
use Rattle.ch_service.proofs.answering.answer_joined.Goals as goal

pub returns-in_err-text-clause-refused : goal.returns-in_err-text-clause-refused
returns-in_err-text-clause-refused g c =
    let exit = err_from_is_err_and c.from_residual.result c.from_residual.ensures.1 in
    rw (exit.1, exit.2) (inl (c.in_err-text.ensures.refused, search rules))

pub returns-clause-refused : goal.returns-clause-refused
returns-clause-refused g c =
    let is = c.of_whole.ensures ∙ ap (λ (text : List ℕ). of_whole text c.in-Err.refusal) c.as_slice-in-Err.ensures.value in
    subst (StopsInJoined _ _ _ _) (sym is)
    (parts_refused _ _ (Some c.answer-answered.new.gr.now) (Some c.answer-answered.new.queries.now) _ _ c.in_ok-text.text.items c.parts.result.0.now c.parts.result.1.now c.in_ok-text.ensures.ended.0 c.in_ok-text.ensures.ended.1 (search rules) (search rules) c.in-Err.refusal (search rules) c.in-Err.ensures.refused)
