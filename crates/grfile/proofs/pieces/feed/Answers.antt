use Rattle.std.proofs.Common.{rules}
use Rattle.std.proofs.lemmas.Result.{IfErr-at_err, IfErr-weaker}
use Rattle.std.proofs.Common.{◌++◌, List, ℕ}
use Rattle.grfile.specs.Taken.{IsReadTo, taken_of, told_with}
use Rattle.grfile.proofs.LaterFaults.{read_then, told_fresh}
use Rattle.grfile.proofs.pieces.feed.Goals as goal

pub returns-in-Err-clause-refused : goal.returns-in-Err-clause-refused
returns-in-Err-clause-refused g c = search rules

pub returns-in-Err-clause-before : goal.returns-in-Err-clause-before
returns-in-Err-clause-before g c = λ fresh.
    let grammar = g.F.Form.grammar c.args.form in
    let old = taken_of c.args.pieces.now in
    let judged = λ (rest : List ℕ). told_with grammar old (c.args.piece.now ++ rest) in
    IfErr-at_err (IsReadTo grammar judged) c.in-Err.is (IfErr-weaker c.take-answer.result _ (IsReadTo grammar judged) (λ e to. read_then grammar judged (λ rest. told_fresh grammar old (c.args.piece.now ++ rest) fresh) to) c.take-answer.ensures.before)
