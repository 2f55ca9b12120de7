use Rattle.std.proofs.Common.{ℕ, subst, sym}
use Rattle.std.proofs.lemmas.Result.{err_from_is_err_and}
use Rattle.counted_io.specs.Limits.{IsRead}
use Rattle.counted_io.specs.Limits.Laws.{read_none, read_then, reads_then}
use Rattle.counted_io.specs.declared.TheConstants.{MOST_CALLS}
use Rattle.counted_io.proofs.PartAfterPart.{gathers_none, gathers_then}
use Rattle.counted_io.proofs.whole.read_whole.Goals as goal

pub pieces-init : goal.pieces-init
pieces-init g c = record {
  gathers = gathers_none (g.R.Read.remaining c.args.reader.now) c.args.text.now.items;
  reads = subst (λ (n : ℕ). IsRead g.R.StepRead.step MOST_CALLS n c.args.reader.now c.args.reader.now) (sym c.new-calls.ensures) (read_none g.R.StepRead.step MOST_CALLS c.args.reader.now);
}

pub pieces-preserved : goal.pieces-preserved
pieces-preserved g c = record {
  gathers = gathers_then c.pieces.invariant.gathers c.in_ok-read_piece.ensures.ok;
  reads = read_then g.R.StepRead.step c.pieces.invariant.reads c.in_ok-read_piece.ensures.calls;
}

pub returns-clause-ok : goal.returns-clause-ok
returns-clause-ok g c = (gathers_then c.pieces.invariant.gathers c.in_ok-read_piece.ensures.ok, c.in_ok-read_piece.ensures.ended c.if-branch.false)

pub returns-clause-calls : goal.returns-clause-calls
returns-clause-calls g c = (_, read_then g.R.StepRead.step c.pieces.invariant.reads c.in_ok-read_piece.ensures.calls)

pub returns-in_err-read_piece-clause-failed : goal.returns-in_err-read_piece-clause-failed
returns-in_err-read_piece-clause-failed g c =
    let exit = err_from_is_err_and c.from_residual.result c.from_residual.ensures.1 in
    rw (exit.1, exit.2) (λ read. gathers_then c.pieces.invariant.gathers (c.in_err-read_piece.ensures.failed read))

pub returns-in_err-read_piece-clause-stopped : goal.returns-in_err-read_piece-clause-stopped
returns-in_err-read_piece-clause-stopped g c =
    let exit = err_from_is_err_and c.from_residual.result c.from_residual.ensures.1 in
    rw (exit.1, exit.2) (reads_then g.R.StepRead.step c.pieces.invariant.reads c.in_err-read_piece.ensures.stopped)
