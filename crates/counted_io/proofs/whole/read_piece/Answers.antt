use Rattle.std.proofs.Common.{refl}
use Rattle.std.proofs.lemmas.Result.{err_from_is_err_and}
use Rattle.counted_io.specs.Limits.{gives_out}
use Rattle.counted_io.specs.Limits.Laws.{gave_out, read_by, refused_after}
use Rattle.counted_io.proofs.PartAfterPart.{memory_no_read}
use Rattle.counted_io.proofs.whole.read_piece.Goals as goal

pub returns-in_err-count-clause-stopped : goal.returns-in_err-count-clause-stopped
returns-in_err-count-clause-stopped g c =
    let exit = err_from_is_err_and c.from_residual.result c.from_residual.ensures.1 in
    rw (exit.1, exit.2) (gives_out refl (gave_out g.R.StepRead.step _ _ c.in_err-count.ensures.failed))

pub returns-then-count-eq0-clause-calls : goal.returns-then-count-eq0-clause-calls
returns-then-count-eq0-clause-calls g c = read_by g.R.StepRead.step _ _ _ c.in_ok-count.ensures.given

pub returns-in_err-extend_from_slice-clause-stopped : goal.returns-in_err-extend_from_slice-clause-stopped
returns-in_err-extend_from_slice-clause-stopped g c =
    let exit = err_from_is_err_and c.from_residual-in_err-extend_from_slice.result c.from_residual-in_err-extend_from_slice.ensures.1 in
    rw (exit.1, exit.2) (refused_after g.R.StepRead.step (read_by g.R.StepRead.step _ _ _ c.in_ok-count.ensures.given) memory_no_read)

pub returns-clause-calls : goal.returns-clause-calls
returns-clause-calls g c = read_by g.R.StepRead.step _ _ _ c.in_ok-count.ensures.given
