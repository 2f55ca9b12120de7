use Rattle.std.proofs.Common.{List, ℕ, ◌++◌, ap, ◌∙◌, rules}
use Rattle.std.proofs.lemmas.Result.{err_from_is_err_and}
use Rattle.outcomes.specs.Info.{info}
use Rattle.outcomes.proofs.FileSize.{breaks, refused}
use Rattle.outcomes.proofs.info.write_info.Goals as goal

pub returns-in_err-hierarchy-clause-refused : goal.returns-in_err-hierarchy-clause-refused
returns-in_err-hierarchy-clause-refused g c =
    let exit = err_from_is_err_and c.from_residual.result c.from_residual.ensures.1 in
    rw (exit.1, exit.2) (refused c.in_err-hierarchy.field-0.0 _ _ _ c.in_err-hierarchy.ensures.reads.err (search rules))

pub returns-in_err-write-clause-refused : goal.returns-in_err-write-clause-refused
returns-in_err-write-clause-refused g c =
    let exit = err_from_is_err_and c.from_residual-in_err-write.result c.from_residual-in_err-write.ensures.1 in
    rw (exit.1, exit.2) (breaks _ c.nodes-well_made.ensures.made c.in_ok-hierarchy.ensures.reads.ok
    (c.as_slice.ensures.value ∙ (c.in_ok-push_info.ensures ∙ ap (λ (l : List ℕ). l ++ info c.in_ok-hierarchy.hierarchy) c.new-text.ensures.items)) c.new.ensures.written c.in_err-write.ensures.err)
