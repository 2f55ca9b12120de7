use Rattle.std.proofs.lemmas.Result.{err_from_is_err_and}
use Rattle.grfile.specs.Progress.{listing_of}
use Rattle.grfile.specs.Taken.{taken_of, told_with}
use Rattle.grfile.proofs.TextInPieces.{first_fault, reads_at_end, told_all, told_some}
use Rattle.std.proofs.lemmas.Result.{IfErr-weaker}
use Rattle.grfile.specs.Taken.{StopsWith}
use Rattle.grfile.proofs.LaterFaults.{ReadTo, listed, read_at_end, stops_listed}
use Rattle.grfile.proofs.pieces.read_listing.Goals as goal

pub returns-in_err-feed_all-clause-told : goal.returns-in_err-feed_all-clause-told
returns-in_err-feed_all-clause-told g c =
    let exit = err_from_is_err_and c.from_residual.result c.from_residual.ensures.1 in
    rw (exit.1, exit.2) (first_fault (g.F.Form.grammar c.args.form) c.new-pieces.ensures (g.R.Read.remaining c.args.reader.now) _ c.in_err-feed_all.ensures.err)

pub returns-clause-told : goal.returns-clause-told
returns-clause-told g c = told_all (g.F.Form.grammar c.args.form) c.new-pieces.ensures listing_of
    (taken_of c.feed_all.new.pieces) c.finish.result (g.R.Read.remaining c.args.reader.now)
    (g.R.Read.remaining c.feed_all.new.reader) c.in_ok-feed_all.ensures.ok c.in_ok-feed_all.ensures.reads.ended c.finish.ensures.told

pub returns-clause-listed : goal.returns-clause-listed
returns-clause-listed g c = told_some (g.F.Form.grammar c.args.form) c.new-pieces.ensures listing_of
    (taken_of c.feed_all.new.pieces) c.finish.result (g.R.Read.remaining c.args.reader.now)
    (g.R.Read.remaining c.feed_all.new.reader) c.in_ok-feed_all.ensures.ok c.finish.ensures.told

pub returns-clause-reads : goal.returns-clause-reads
returns-clause-reads g c =
    let grammar = g.F.Form.grammar c.args.form in
    reads_at_end c.finish.result (told_with grammar (taken_of c.new-pieces.result))
    (told_with grammar (taken_of c.feed_all.new.pieces)) c.feed_all.new.pieces.progress.line c.in_ok-feed_all.ensures.ok
    (c.finish.ensures.refused c.in_ok-feed_all.ensures.stays) c.in_ok-feed_all.ensures.reads

pub returns-in_err-feed_all-clause-before : goal.returns-in_err-feed_all-clause-before
returns-in_err-feed_all-clause-before g c =
    let exit = err_from_is_err_and c.from_residual.result c.from_residual.ensures.1 in
    let grammar = g.F.Form.grammar c.args.form in
    rw (exit.1, exit.2) (stops_listed grammar (g.R.Read.remaining c.args.reader.now) (g.R.Read.remaining c.feed_all.new.reader) c.in_err-feed_all.field-0.0 c.new-pieces.ensures c.in_err-feed_all.ensures.before)

pub returns-clause-before : goal.returns-clause-before
returns-clause-before g c =
    let grammar = g.F.Form.grammar c.args.form in
    let first = taken_of c.new-pieces.result in
    let last = taken_of c.feed_all.new.pieces in
    let had = g.R.Read.remaining c.args.reader.now in
    let left = g.R.Read.remaining c.feed_all.new.reader in
    IfErr-weaker c.finish.result (StopsWith (ReadTo grammar (told_with grammar first)) had left) (StopsWith (ReadTo grammar (listed grammar)) had left) (λ e stops. stops_listed grammar had left e c.new-pieces.ensures stops)
    (read_at_end grammar c.finish.result first last had left c.in_ok-feed_all.ensures.stays c.in_ok-feed_all.ensures.ok (c.finish.ensures.refused c.in_ok-feed_all.ensures.stays))
