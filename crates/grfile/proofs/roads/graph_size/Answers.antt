use Rattle.std.proofs.Common.{refl, sym, ◌∙◌}
use Rattle.std.proofs.lemmas.Bool.{not-true, not-false}
use Rattle.std.proofs.lemmas.Result.{err_from_is_err_and}
use Rattle.grfile.proofs.CapChangesNothing.{graph_size-three, graph_size-other}
use Rattle.grfile.proofs.roads.graph_size.Goals as goal

pub returns-in_default : goal.returns-in_default
returns-in_default c = rw (c.at.ensures, graph_size-other c.args.line c.args.fields c.in_default.ensures) refl

pub returns-then-ne : goal.returns-then-ne
returns-then-ne c =
    let read = graph_size-three c.args.line _ _ _ c.in-Some.ensures in
    let word = not-true _ (rw c.as_slice.ensures at (sym c.ne.ensures ∙ c.if-ne.true)) in
    rw (c.at-then-ne.ensures, read, word) refl

pub returns-in_err-nodes : goal.returns-in_err-nodes
returns-in_err-nodes c =
    let exit = err_from_is_err_and c.from_residual.result c.from_residual.ensures.1 in
    let read = graph_size-three c.args.line _ _ _ c.in-Some.ensures in
    let word = not-false _ (rw c.as_slice.ensures at (sym c.ne.ensures ∙ c.if-ne.false)) in
    rw (exit.1, exit.2, read, word, sym c.number_in.ensures ∙ c.in_err-nodes.was) refl

pub returns-in_err-arcs : goal.returns-in_err-arcs
returns-in_err-arcs c =
    let exit = err_from_is_err_and c.from_residual-in_err-arcs.result c.from_residual-in_err-arcs.ensures.1 in
    let read = graph_size-three c.args.line _ _ _ c.in-Some.ensures in
    let word = not-false _ (rw c.as_slice.ensures at (sym c.ne.ensures ∙ c.if-ne.false)) in
    rw (exit.1, exit.2, read, word, sym c.number_in.ensures ∙ c.in_ok-nodes.was, sym c.number_in-2.ensures ∙ c.in_err-arcs.was) refl

pub returns : goal.returns
returns c =
    let read = graph_size-three c.args.line _ _ _ c.in-Some.ensures in
    let word = not-false _ (rw c.as_slice.ensures at (sym c.ne.ensures ∙ c.if-ne.false)) in
    rw (c.size_in_range.ensures, read, word, sym c.number_in.ensures ∙ c.in_ok-nodes.was, sym c.number_in-2.ensures ∙ c.in_ok-arcs.was) refl
