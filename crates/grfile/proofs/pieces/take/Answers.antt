use Rattle.std.proofs.Common.{◌<◌, ◌^◌, arith, rules}
use Rattle.std.proofs.lemmas.Result.{err_from_is_err_and}
use Rattle.grfile.proofs.TextInPieces.{counts_after, counts_kept}
use Rattle.std.proofs.Common.{List, ℕ, [], ap, map, refl, sym, ◌∙◌}
use Rattle.std.specs.Option.{option_map}
use Rattle.std.specs.Str.Lines.{strip_carriage_return}
use Rattle.grfile.specs.Progress.{listing_of, told_from}
use Rattle.grfile.proofs.LaterFaults.{read_kept, read_then}
use Rattle.grfile.proofs.pieces.take.Goals as goal

pub returns-in_err-rest-clause-lines : goal.returns-in_err-rest-clause-lines
returns-in_err-rest-clause-lines g c =
    let exit = err_from_is_err_and c.from_residual-in_err-rest.result c.from_residual-in_err-rest.ensures.1 in
    rw (exit.1, exit.2) (counts_after c.args.progress.now.line _ c.in_ok-end_line.ensures.lines c.in-Some.ensures.feeds c.in_err-rest.ensures.lines)

pub returns-clause-lines : goal.returns-clause-lines
returns-clause-lines g c =
    let fits : c.take_lines.new.progress.line < 2 ^ 64 = omega arith in
    counts_kept c.keep-2.result c.args.progress.now.line _ c.take_lines.new.progress.line c.keep-2.ensures.refused (omega (arith, c.in_ok-end_line.ensures.lines, c.in-Some.ensures.feeds, c.in_ok-rest.ensures.lines)) fits

pub returns-in_default-clause-lines : goal.returns-in_default-clause-lines
returns-in_default-clause-lines g c = search rules

pub returns-in_default-clause-takes : goal.returns-in_default-clause-takes
returns-in_default-clause-takes g c = search rules

pub returns-in_default-clause-before : goal.returns-in_default-clause-before
returns-in_default-clause-before g c =
    let old = c.args.progress.now in
    read_kept (g.F.Form.grammar c.args.form) c.keep.result _ old.line (option_map listing_of old.listed) c.args.begun.now.items c.args.piece.now (λ rest. refl) c.keep.ensures.refused

pub returns-in_err-end_line-clause-before : goal.returns-in_err-end_line-clause-before
returns-in_err-end_line-clause-before g c =
    let exit = err_from_is_err_and c.from_residual.result c.from_residual.ensures.1 in
    let old = c.args.progress.now in
    rw (exit.1, exit.2) (record { number = old.line; listing = option_map listing_of old.listed; begun = c.args.begun.now.items; back = c.args.piece.now; so_far = λ rest. refl; line_is = c.in_err-end_line.ensures.at })

-- what was said before the first line is said after it
pub returns-in_err-rest-clause-before : goal.returns-in_err-rest-clause-before
returns-in_err-rest-clause-before g c =
    let exit = err_from_is_err_and c.from_residual-in_err-rest.result c.from_residual-in_err-rest.ensures.1 in
    let grammar = g.F.Form.grammar c.args.form in
    rw (exit.1, exit.2) (read_then grammar _ (λ rest. ap (λ (lines : List (List ℕ)). told_from grammar c.args.progress.now (map strip_carriage_return lines)) (c.in-Some.ensures.lines c.args.begun.now.items rest) ∙ sym (c.in_ok-end_line.ensures.takes _)) c.in_err-rest.ensures.before)

pub returns-clause-before : goal.returns-clause-before
returns-clause-before g c =
    let grammar = g.F.Form.grammar c.args.form in
    let new = c.take_lines.new.progress in
    read_kept grammar c.keep-2.result _ new.line (option_map listing_of new.listed) c.in_ok-rest.rest.now []
    (λ rest. ap (λ (lines : List (List ℕ)). told_from grammar c.args.progress.now (map strip_carriage_return lines)) (c.in-Some.ensures.lines c.args.begun.now.items rest) ∙ sym (c.in_ok-end_line.ensures.takes _) ∙ sym (c.in_ok-rest.ensures.takes rest)) c.keep-2.ensures.refused
