use Rattle.std.proofs.Common.{refl}
use Rattle.std.proofs.lemmas.Result.{IfOk-at_ok}
use Rattle.grfile.proofs.SpelledTexts.{pairs_spelled}
use Rattle.grfile.proofs.LaterFaults.{pairs_text, text_read, text_refused}
use Rattle.grfile.proofs.query_reader.read_queries_within.Goals as goal

pub returns-in_err-listed-clause-reads : goal.returns-in_err-listed-clause-reads
returns-in_err-listed-clause-reads g c =
    text_refused (pairs_text c.args.nodes) (λ v. v.items) c.from_residual.result c.from_residual.ensures.1 c.in_err-listed.ensures.told c.in_err-listed.ensures.reads c.in_err-listed.ensures.before

pub returns-clause-reads : goal.returns-clause-reads
returns-clause-reads g c = text_read (pairs_text c.args.nodes) (λ v. v.items) _ c.in_ok-listed.listed.entries c.in_ok-listed.ensures.told refl c.in_ok-listed.ensures.reads

pub returns-clause-in_range : goal.returns-clause-in_range
returns-clause-in_range g c = let listed = c.in_ok-listed.ensures.listed in
    (IfOk-at_ok _ listed.1 (pairs_spelled c.args.nodes listed.0)).within
