use Rattle.std.proofs.Common.{ap, rules}
use Rattle.std.proofs.lemmas.Result.{err_from_is_err_and}
use Rattle.ch_graph.specs.Hierarchy.{version_number}
use Rattle.ch_renew.proofs.RenewedIsRight.{breaks, file_refused, text_refused}
use Rattle.ch_renew.proofs.renewing.renew_if_same.Goals as goal

pub returns-in-Err-clause-refused : goal.returns-in-Err-clause-refused
returns-in-Err-clause-refused g c = rw c.of_graph.ensures (text_refused c.in-Err.fault _ _ _ _ c.in-Err.ensures.reads.reading (search rules))

pub returns-in_err-old-clause-refused : goal.returns-in_err-old-clause-refused
returns-in_err-old-clause-refused g c =
    let exit = err_from_is_err_and c.from_residual.result c.from_residual.ensures.1 in
    rw (exit.1, exit.2) (file_refused c.in_err-old.field-0.0 c.in-Ok.graph _ _ _ _ c.in-Ok.ensures.reads.reading c.in_err-old.ensures.reads.err (search rules))

pub write-requires : goal.write-requires
write-requires g c = ap version_number c.in_ok-new.ensures.version

pub returns-in_err-write-clause-refused : goal.returns-in_err-write-clause-refused
returns-in_err-write-clause-refused g c =
    let exit = err_from_is_err_and c.from_residual-in_err-write.result c.from_residual-in_err-write.ensures.1 in
    rw (exit.1, exit.2)
    (breaks _ _ (record { reads = c.in-Ok.ensures.reads.reading; spelled = c.in_ok-old.ensures.reads.ok; made = c.nodes-nodes.ensures.made }) _ _ c.in_err-write.field-0.0
    (record { version = c.in_ok-new.ensures.version; right = c.in_ok-new.ensures.right; ranks = c.in_ok-new.ensures.ranks; made = c.nodes-well_made.ensures.made }) c.in_err-write.ensures.writes.err)
