use Rattle.grfile.proofs.PlainTaken.{told_begun}
use Rattle.std.proofs.Common.{[], sym}
use Rattle.std.proofs.lemmas.Result.{err_from_is_err_and}
use Rattle.std.specs.Option.{option_map}
use Rattle.grfile.specs.Progress.{listing_of}
use Rattle.grfile.proofs.pieces.take_lines.Goals as goal

pub returns-clause-takes : goal.returns-clause-takes
returns-clause-takes g c = told_begun (g.F.Form.grammar c.args.form) c.args.progress.now c.loop-more.progress c.take_first.new.progress c.args.text.now c.loop-more.rest.now c.loop-more.invariant.told (c.take_first.ensures.stays (cc))

pub returns-in_err-more-clause-before : goal.returns-in_err-more-clause-before
returns-in_err-more-clause-before g c =
    let exit = err_from_is_err_and c.from_residual.result c.from_residual.ensures.1 in
    let old = c.loop-more.progress in
    rw (exit.1, exit.2) (record { number = old.line; listing = option_map listing_of old.listed; begun = []; back = c.loop-more.rest.now; so_far = λ rest. sym (c.loop-more.invariant.told rest); line_is = c.in_err-more.ensures.refused.1.0 })
