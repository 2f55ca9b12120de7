use Rattle.std.proofs.Common.{◌+◌, eqb, get_or, arith, add-one}
use Rattle.std.proofs.lemmas.Bool.{false_from_ne_true}
use Rattle.std.proofs.lemmas.List.{take_rest}
use Rattle.text_lines.proofs.LineCuts.{cut_at, cut_none, feeds_at, feeds_none}
use Rattle.text_lines.proofs.line.first_line.Goals as goal

pub returns-in-Some-clause-lines : goal.returns-in-Some-clause-lines
returns-in-Some-clause-lines c = λ begun more.
    let text = c.args.text.now in
    let end = c.in-Some.end in
    let first = c.in-Some.ensures in
    rw (take_rest text (end + 1), add-one) (cut_at begun text more end first.0.high first.1 (λ j h. false_from_ne_true (eqb (get_or text j 0) 10) (first.0.before j (omega arith) h)))

pub returns-in-Some-clause-feeds : goal.returns-in-Some-clause-feeds
returns-in-Some-clause-feeds c =
    let text = c.args.text.now in
    let end = c.in-Some.end in
    let first = c.in-Some.ensures in
    rw (take_rest text (end + 1), add-one end) (feeds_at text end first.0.high first.1 (λ j h. false_from_ne_true (eqb (get_or text j 0) 10) (first.0.before j (omega arith) h)))

pub returns-in-None-clause-lines : goal.returns-in-None-clause-lines
returns-in-None-clause-lines c = λ begun more.
    let text = c.args.text.now in
    cut_none begun text more (λ j h. false_from_ne_true (eqb (get_or text j 0) 10) (c.in-None.ensures j (omega arith) h))

pub returns-in-None-clause-feeds : goal.returns-in-None-clause-feeds
returns-in-None-clause-feeds c =
    let text = c.args.text.now in
    feeds_none text (λ j h. false_from_ne_true (eqb (get_or text j 0) 10) (c.in-None.ensures j (omega arith) h))
