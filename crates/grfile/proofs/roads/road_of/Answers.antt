use Rattle.std.proofs.Common.{refl, sym, ◌∙◌}
use Rattle.std.proofs.lemmas.Result.{err_from_is_err_and}
use Rattle.grfile.proofs.CapChangesNothing.{road_of-three, road_of-other}
use Rattle.grfile.proofs.roads.road_of.Goals as goal

pub returns-in_default : goal.returns-in_default
returns-in_default c =
    rw (c.at.ensures, road_of-other c.args.nodes c.args.line c.args.fields c.in_default.ensures) refl

pub returns-in_err-from : goal.returns-in_err-from
returns-in_err-from c =
    let exit = err_from_is_err_and c.from_residual.result c.from_residual.ensures.1 in
    let read = road_of-three c.args.nodes c.args.line _ _ _ c.ranges.nodes.fits c.in-Some.ensures in
    rw (exit.1, exit.2, read, sym c.number_in.ensures ∙ c.in_err-from.was) refl

pub returns-in_err-to : goal.returns-in_err-to
returns-in_err-to c =
    let exit = err_from_is_err_and c.from_residual-in_err-to.result c.from_residual-in_err-to.ensures.1 in
    let read = road_of-three c.args.nodes c.args.line _ _ _ c.ranges.nodes.fits c.in-Some.ensures in
    rw (exit.1, exit.2, read, sym c.number_in.ensures ∙ c.in_ok-from.was, sym c.number_in-2.ensures ∙ c.in_err-to.was) refl

pub returns-in_err-weight : goal.returns-in_err-weight
returns-in_err-weight c =
    let exit = err_from_is_err_and c.from_residual-in_err-weight.result c.from_residual-in_err-weight.ensures.1 in
    let read = road_of-three c.args.nodes c.args.line _ _ _ c.ranges.nodes.fits c.in-Some.ensures in
    rw (exit.1, exit.2, read, sym c.number_in.ensures ∙ c.in_ok-from.was, sym c.number_in-2.ensures ∙ c.in_ok-to.was, sym c.number_in-3.ensures ∙ c.in_err-weight.was) refl

pub returns : goal.returns
returns c =
    let read = road_of-three c.args.nodes c.args.line _ _ _ c.ranges.nodes.fits c.in-Some.ensures in
    rw (c.road_in_range.ensures, read, sym c.number_in.ensures ∙ c.in_ok-from.was, sym c.number_in-2.ensures ∙ c.in_ok-to.was, sym c.number_in-3.ensures ∙ c.in_ok-weight.was) refl
