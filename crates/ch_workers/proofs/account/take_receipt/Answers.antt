use Rattle.std.proofs.Common.{◌<◌, length, sym, ap, ◌∙◌, arith}
use Rattle.std.proofs.lemmas.List.Elements.{Contains-push}
use Rattle.ch_laws.specs.Contraction.{Contraction}
use Rattle.ch_workers.proofs.ReceiptMarks.{within_log, node_of, from_place, marked_push, marked_twice}
use Rattle.ch_workers.proofs.account.take_receipt.Goals as goal

pub returns-then-place-log-clause-refused : goal.returns-then-place-log-clause-refused
returns-then-place-log-clause-refused c f done m h =
    let r = c.args.receipt in
    let inside : r.rank < length c.args.log.now = within_log c.requires.log r (h.only r (Contains-push done r)) in
    omega (arith, c.if-place-log.true)

pub returns-then-entry-receipt-clause-refused : goal.returns-then-entry-receipt-clause-refused
returns-then-entry-receipt-clause-refused c f done m h =
    let r = c.args.receipt in
    let of = h.only r (Contains-push done r) in
    c.if-entry-receipt.true (ap (λ (e : Contraction). e.node) (c.entry.view_is ∙ c.index-log-place.is) ∙ node_of c.requires.log r of _)

pub returns-then-marks-place-clause-refused : goal.returns-then-marks-place-clause-refused
returns-then-marks-place-clause-refused c f done m h = marked_twice done c.args.marks.now c.args.receipt m c.if-marks-place.true h

pub returns-clause-taken : goal.returns-clause-taken
returns-clause-taken c t done m =
    let r = c.args.receipt in
    let inside : r.rank < length c.args.log.now = omega (arith, c.if-place-log.false) in
    let marked : r.rank < length c.args.marks.now = omega (arith, inside, c.requires.size) in
    marked_push done c.args.marks.now r m
    (from_place c.requires.log r c.index-log-place.result inside (sym (ap (λ (e : Contraction). e.node) (c.entry.view_is ∙ c.index-log-place.is)) ∙ c.if-entry-receipt.false)) marked c.if-marks-place.false
