use Rattle.std.proofs.Common.{refl, sym, ◌∙◌}
use Rattle.std.proofs.lemmas.Result.{err_from_is_err_and}
use Rattle.grfile.proofs.CapChangesNothing.{pairs_size-four, pairs_size-other}
use Rattle.grfile.proofs.pairs.pairs_size.Goals as goal

pub returns-in_default : goal.returns-in_default
returns-in_default c =
    rw (c.at.ensures, pairs_size-other c.args.nodes c.args.line c.args.fields c.in_default.ensures) refl

pub returns-then-not-is_point_to_point : goal.returns-then-not-is_point_to_point
returns-then-not-is_point_to_point c =
    let read = pairs_size-four c.args.nodes c.args.line _ _ _ _ c.in-Some.ensures in
    rw (c.at-then-not-is_point_to_point.ensures, read, sym c.is_point_to_point.ensures ∙ c.if-not-is_point_to_point.true) refl

pub returns-in_err-count : goal.returns-in_err-count
returns-in_err-count c =
    let exit = err_from_is_err_and c.from_residual.result c.from_residual.ensures.1 in
    let read = pairs_size-four c.args.nodes c.args.line _ _ _ _ c.in-Some.ensures in
    rw (exit.1, exit.2, read, sym c.is_point_to_point.ensures ∙ c.if-not-is_point_to_point.false, sym c.number_in.ensures ∙ c.in_err-count.was) refl

pub returns : goal.returns
returns c =
    let read = pairs_size-four c.args.nodes c.args.line _ _ _ _ c.in-Some.ensures in
    rw (c.count_in_range.ensures, read, sym c.is_point_to_point.ensures ∙ c.if-not-is_point_to_point.false, sym c.number_in.ensures ∙ c.in_ok-count.was) refl
