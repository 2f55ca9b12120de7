use Rattle.std.proofs.Common.{rules}
use Rattle.std.proofs.lemmas.Result.{err_from_is_err_and}
use Rattle.ch_verify.proofs.VerdictsOnFiles.{whole, first_part}
use Rattle.ch_verify.proofs.verifying.write_line.Goals as goal

pub returns-clause-ok : goal.returns-clause-ok
returns-clause-ok g c = whole c.args.verdict (search rules) c.in_ok-write.ensures.ok

pub returns-in_err-write-clause-err : goal.returns-in_err-write-clause-err
returns-in_err-write-clause-err g c =
    let exit = err_from_is_err_and c.from_residual-in_err-write.result c.from_residual-in_err-write.ensures.1 in
    rw (exit.1, exit.2) (first_part c.args.verdict (search rules) c.new.ensures.written c.in_err-write.ensures.err)
