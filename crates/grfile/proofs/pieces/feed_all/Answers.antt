use Rattle.std.proofs.Common.{◌≤◌, [], ◌++◌, refl, subst, ◌∙◌, length, take, ap, arith}
use Rattle.std.proofs.lemmas.List.{length-take-le}
use Rattle.std.proofs.lemmas.Result.{err_from_is_err_and}
use Rattle.std.proofs.lemmas.Grind.{common_steps}
use Rattle.grfile.specs.declared.error.GrError.{GrError}
use Rattle.grfile.specs.Taken.{taken_of, told_with}
use Rattle.grfile.proofs.TextInPieces.{at_none, at_some, nothing_taken, stops_between, stops_in_piece, taken_more, taken_same, within_end, within_first, within_more}
use Rattle.counted_io.specs.Limits.{IsRead}
use Rattle.counted_io.specs.Limits.Laws.{failed_after, read_none, read_then, refused_after}
use Rattle.grfile.proofs.LaterFaults.{ReadTo, read_in_piece, read_so_far, stops_there}
use Rattle.grfile.proofs.TextInPieces.{known_more}
use Rattle.grfile.proofs.pieces.feed_all.Goals as goal

pub loop-count-preserved : goal.loop-count-preserved
loop-count-preserved g c =
    let grammar = g.F.Form.grammar c.args.form in
    let kept = c.loop-count.invariant in
    let had = g.R.Read.remaining c.args.reader.now in
    let left = g.R.Read.remaining c.loop-count.reader in
    let later = g.R.Read.remaining c.read_piece.new.reader in
    let given = at_some _ _ _ _ c.in-Some.is c.in_ok-count.ensures.bytes in
    let chunk = take c.in-Some.count c.read_piece.new.piece in
    let short : length chunk ≤ 65536 = omega (arith, given.0, length-take-le c.in-Some.count c.read_piece.new.piece given.0) in
    record {
      fresh = c.in_ok-feed.ensures.stays ∙ kept.fresh;
      told = taken_more (told_with grammar (taken_of c.args.pieces.now)) (told_with grammar (taken_of c.loop-count.pieces))
          (told_with grammar (taken_of c.feed.new.pieces)) c.loop-count.pieces.progress.line had left later chunk kept.told c.in_ok-feed.ensures.takes
          (c.in_ok-feed.ensures.lines kept.fresh) given.1;
      few = within_more had left later chunk c.read_piece.new.calls.left c.loop-count.calls.left _ kept.few given.1 short c.in_ok-count.ensures.counted;
      calls = read_then g.R.StepRead.step kept.calls c.in_ok-count.ensures.calls;
    }

pub returns-in_err-feed-clause-reads : goal.returns-in_err-feed-clause-reads
returns-in_err-feed-clause-reads g c =
    let step = g.R.StepRead.step in
    let grammar = g.F.Form.grammar c.args.form in
    let kept = c.loop-count.invariant in
    let given = at_some _ _ _ _ c.in-Some.is c.in_ok-count.ensures.bytes in
    let chunk = take c.in-Some.count c.read_piece.new.piece in
    let short : length chunk ≤ 65536 = omega (arith, given.0, length-take-le c.in-Some.count c.read_piece.new.piece given.0) in
    let exit = err_from_is_err_and c.from_residual-in_err-feed.result c.from_residual-in_err-feed.ensures.1 in
    let reached = c.in_err-feed.ensures.lines kept.fresh in
    rw (exit.1, exit.2) (record {
      reached = stops_in_piece (told_with grammar (taken_of c.args.pieces.now))
          (told_with grammar (taken_of c.loop-count.pieces)) (g.R.Read.remaining c.args.reader.now)
          (g.R.Read.remaining c.loop-count.reader) (g.R.Read.remaining c.read_piece.new.reader) chunk kept.told given.1 short reached;
      calls = refused_after step (read_then step kept.calls c.in_ok-count.ensures.calls) reached.no_read;
    })

pub returns-in_err-count-clause-reads : goal.returns-in_err-count-clause-reads
returns-in_err-count-clause-reads g c =
    let grammar = g.F.Form.grammar c.args.form in
    let kept = c.loop-count.invariant in
    let e = c.in_err-count.ensures.refused in
    let exit = err_from_is_err_and c.from_residual.result c.from_residual.ensures.1 in
    let told = taken_same (told_with grammar (taken_of c.args.pieces.now))
    (told_with grammar (taken_of c.loop-count.pieces)) c.loop-count.pieces.progress.line (g.R.Read.remaining c.args.reader.now)
    (g.R.Read.remaining c.loop-count.reader) (g.R.Read.remaining c.read_piece.new.reader) kept.told e.1 in
    rw (exit.1, exit.2) (record {
      reached = stops_between (told_with grammar (taken_of c.args.pieces.now)) (told_with grammar (taken_of c.loop-count.pieces)) c.loop-count.pieces.progress.line (g.R.Read.remaining c.args.reader.now) (g.R.Read.remaining c.read_piece.new.reader) _ told (λ _. ap (λ (e : GrError). e.line) e.0);
      calls = failed_after g.R.StepRead.step kept.calls (ap (λ (e : GrError). e.kind) e.0) c.in_err-count.ensures.gave_out;
    })

pub loop-count-init : goal.loop-count-init
loop-count-init g c =
    let step = g.R.StepRead.step in
    let reader = c.args.reader.now in
    let left = c.new-calls.result.left in
    let had = g.R.Read.remaining reader in
    record {
      fresh = c.requires.fresh;
      told = ([], (λ rest. refl), c.requires.begins, nothing_taken had);
      few = within_first had left _ (omega (arith, c.new-calls.ensures));
      calls = subst (λ n. IsRead step n left reader reader) c.new-calls.ensures (read_none step left reader);
    }

pub returns-clause-reads : goal.returns-clause-reads
returns-clause-reads g c =
    let had = g.R.Read.remaining c.args.reader.now in
    let left = g.R.Read.remaining c.loop-count.reader in
    let later = g.R.Read.remaining c.read_piece.new.reader in
    let kept = c.loop-count.invariant in
    let none = at_none _ _ _ c.in_default.is c.in_ok-count.ensures.bytes in
    record {
      ended = none.0;
      few = within_end had left later c.read_piece.new.calls.left c.loop-count.calls.left _ kept.few none.1 none.0 c.in_ok-count.ensures.counted;
      calls = (c.read_piece.new.calls.left, read_then g.R.StepRead.step kept.calls c.in_ok-count.ensures.calls);
    }

pub loop-count-smaller : goal.loop-count-smaller
loop-count-smaller c = grind (arith, common_steps) steps 200000

pub returns-clause-ok : goal.returns-clause-ok
returns-clause-ok c = grind (arith, common_steps) steps 200000

pub slice_bounds-feed-end : goal.slice_bounds-feed-end
slice_bounds-feed-end c = grind (arith, common_steps) steps 600000

pub slice_bounds-piece-end : goal.slice_bounds-piece-end
slice_bounds-piece-end c = grind (arith, common_steps) steps 200000

pub returns-in_err-count-clause-before : goal.returns-in_err-count-clause-before
returns-in_err-count-clause-before g c =
    let grammar = g.F.Form.grammar c.args.form in
    let kept = c.loop-count.invariant in
    let refused = c.in_err-count.ensures.refused in
    let exit = err_from_is_err_and c.from_residual.result c.from_residual.ensures.1 in
    let told = taken_same (told_with grammar (taken_of c.args.pieces.now))
    (told_with grammar (taken_of c.loop-count.pieces)) c.loop-count.pieces.progress.line (g.R.Read.remaining c.args.reader.now)
    (g.R.Read.remaining c.loop-count.reader) (g.R.Read.remaining c.read_piece.new.reader) kept.told refused.1 in
    let first = taken_of c.args.pieces.now in
    let e = c.in_err-count.field-0.0 in
    rw (exit.1, exit.2) (stops_there (ReadTo grammar (told_with grammar first)) told.0 (g.R.Read.remaining c.args.reader.now)
    (g.R.Read.remaining c.read_piece.new.reader) e told.3
    (λ _. read_so_far grammar first (taken_of c.loop-count.pieces) told.0 e kept.fresh told.1 (ap (λ (e : GrError). e.line) refused.0)))

pub returns-in_err-feed-clause-before : goal.returns-in_err-feed-clause-before
returns-in_err-feed-clause-before g c =
    let grammar = g.F.Form.grammar c.args.form in
    let kept = c.loop-count.invariant in
    let given = at_some _ _ _ _ c.in-Some.is c.in_ok-count.ensures.bytes in
    let chunk = take c.in-Some.count c.read_piece.new.piece in
    let exit = err_from_is_err_and c.from_residual-in_err-feed.result c.from_residual-in_err-feed.ensures.1 in
    let had = g.R.Read.remaining c.args.reader.now in
    let later = g.R.Read.remaining c.read_piece.new.reader in
    let first = taken_of c.args.pieces.now in
    let e = c.in_err-feed.field-0.0 in
    rw (exit.1, exit.2) (stops_there (ReadTo grammar (told_with grammar first)) (kept.told.0 ++ chunk) had later e (known_more kept.told.0 chunk had (g.R.Read.remaining c.loop-count.reader) later kept.told.3 given.1)
    (λ _. read_in_piece grammar first (taken_of c.loop-count.pieces) kept.told.0 chunk kept.told.1 (c.in_err-feed.ensures.before kept.fresh)))
