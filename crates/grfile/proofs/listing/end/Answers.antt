use Rattle.std.proofs.Common.{sym, ◌∙◌}
use Rattle.std.proofs.lemmas.Result.{err_from_is_err_and}
use Rattle.grfile.proofs.OneMoreLine.{ends-none}
use Rattle.grfile.proofs.listing.end.Goals as goal

pub returns-in_err-listed-clause-told : goal.returns-in_err-listed-clause-told
returns-in_err-listed-clause-told g c = λ grammar.
    let exit = err_from_is_err_and c.from_residual.result c.from_residual.ensures.1 in
    rw (exit.1, exit.2) (ends-none grammar c.args.progress.line c.args.progress.listed _ c.at.ensures (sym c.ok_or.ensures.value ∙ c.in_err-listed.was))
