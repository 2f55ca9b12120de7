use Rattle.std.proofs.Common.{rules}
use Rattle.std.proofs.lemmas.Result.{err_from_is_err_and}
use Rattle.ch_verify.proofs.VerdictsOnFiles.{says, is_old, text_refused, file_refused, breaks}
use Rattle.ch_verify.proofs.verifying.verify.Goals as goal

pub returns-in-Err-clause-refused : goal.returns-in-Err-clause-refused
returns-in-Err-clause-refused g c = rw c.of_graph.ensures (text_refused c.in-Err.fault _ _ _ _ c.in-Err.ensures.reads.reading (search rules))

pub returns-in_err-hierarchy-clause-refused : goal.returns-in_err-hierarchy-clause-refused
returns-in_err-hierarchy-clause-refused g c =
    let exit = err_from_is_err_and c.from_residual.result c.from_residual.ensures.1 in
    rw (exit.1, exit.2) (file_refused c.in_err-hierarchy.field-0.0 c.in-Ok.graph _ _ _ _ c.in-Ok.ensures.reads.reading c.in_err-hierarchy.ensures.reads.err (search rules))

pub returns-in_err-refuse_old-clause-refused : goal.returns-in_err-refuse_old-clause-refused
returns-in_err-refuse_old-clause-refused g c =
    let exit = err_from_is_err_and c.from_residual-in_err-refuse_old.result c.from_residual-in_err-refuse_old.ensures.1 in
    rw (exit.1, exit.2, c.in_err-refuse_old.ensures.old.0)
    (is_old c.in-Ok.graph c.in_ok-hierarchy.hierarchy _ _ (record { reads = c.in-Ok.ensures.reads.reading; spelled = c.in_ok-hierarchy.ensures.reads.ok; made = c.nodes-well_made.ensures.made }) c.in_err-refuse_old.ensures.old.1, (search rules))

pub returns-in-Ok-write_line-clause-says : goal.returns-in-Ok-write_line-clause-says
returns-in-Ok-write_line-clause-says g c =
    says c.in_ok-verdict.verdict c.in-Ok.graph c.in_ok-hierarchy.hierarchy _ _
    (record { reads = c.in-Ok.ensures.reads.reading; spelled = c.in_ok-hierarchy.ensures.reads.ok; made = c.nodes-well_made.ensures.made }) c.in_ok-refuse_old.ensures.new c.in_ok-verdict.ensures

pub returns-clause-refused : goal.returns-clause-refused
returns-clause-refused g c =
    breaks c.in_ok-verdict.verdict _ _ _ _ c.in-Err-write_line.error
    (says c.in_ok-verdict.verdict c.in-Ok.graph c.in_ok-hierarchy.hierarchy _ _
    (record { reads = c.in-Ok.ensures.reads.reading; spelled = c.in_ok-hierarchy.ensures.reads.ok; made = c.nodes-well_made.ensures.made }) c.in_ok-refuse_old.ensures.new c.in_ok-verdict.ensures) c.in-Err-write_line.ensures.err
