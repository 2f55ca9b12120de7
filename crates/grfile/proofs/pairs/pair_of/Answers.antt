use Rattle.std.proofs.Common.{refl, sym, ◌∙◌}
use Rattle.std.proofs.lemmas.Result.{err_from_is_err_and}
use Rattle.grfile.proofs.CapChangesNothing.{pair_of-two, pair_of-other}
use Rattle.grfile.proofs.pairs.pair_of.Goals as goal

pub returns-in_default : goal.returns-in_default
returns-in_default c =
    rw (c.at.ensures, pair_of-other c.args.nodes c.args.line c.args.fields c.in_default.ensures) refl

pub returns-in_err-source : goal.returns-in_err-source
returns-in_err-source c =
    let exit = err_from_is_err_and c.from_residual.result c.from_residual.ensures.1 in
    let read = pair_of-two c.args.nodes c.args.line _ _ c.ranges.nodes.fits c.in-Some.ensures in
    rw (exit.1, exit.2, read, sym c.number_in.ensures ∙ c.in_err-source.was) refl

pub returns-in_err-target : goal.returns-in_err-target
returns-in_err-target c =
    let exit = err_from_is_err_and c.from_residual-in_err-target.result c.from_residual-in_err-target.ensures.1 in
    let read = pair_of-two c.args.nodes c.args.line _ _ c.ranges.nodes.fits c.in-Some.ensures in
    rw (exit.1, exit.2, read, sym c.number_in.ensures ∙ c.in_ok-source.was, sym c.number_in-2.ensures ∙ c.in_err-target.was) refl

pub returns : goal.returns
returns c =
    let read = pair_of-two c.args.nodes c.args.line _ _ c.ranges.nodes.fits c.in-Some.ensures in
    rw (c.pair_in_range.ensures, read, sym c.number_in.ensures ∙ c.in_ok-source.was, sym c.number_in-2.ensures ∙ c.in_ok-target.was) refl
