use Rattle.std.proofs.Common.{◌+◌, ◌++◌, ◌<◌, take, drop, length, refl, sym, subst, arith}
use Rattle.std.proofs.lemmas.List.{take_all}
use Rattle.ch_workers.specs.Account.{AreApart, AreMarked}
use Rattle.ch_workers.proofs.ReceiptMarks.{apart_front, front_and_rest, one_more}
use Rattle.ch_workers.proofs.account.take_list.Goals as goal

pub returns-then-not-take_receipt-clause-refused : goal.returns-then-not-take_receipt-clause-refused
returns-then-not-take_receipt-clause-refused c f done m h =
    let log = c.args.log.now in
    let xs = c.args.receipts.now in
    let n = c.receipts.receipt-index in
    let inside : n < length xs = omega (arith, c.receipts-test.true) in
    c.if-not-take_receipt.ensures.refused refl (done ++ take n xs) (c.receipts.invariant done m)
    (subst (AreApart log) (sym (one_more done xs n _ inside))
    (apart_front (done ++ take (n + 1) xs) (drop (n + 1) xs) (subst (AreApart log) (sym (front_and_rest done xs (n + 1))) h)))

pub receipts-preserved : goal.receipts-preserved
receipts-preserved c done m =
    let log = c.args.log.now in
    let xs = c.args.receipts.now in
    let n = c.receipts.receipt-index in
    let inside : n < length xs = omega (arith, c.receipts-test.true) in
    subst (λ l. AreMarked log l c.take_receipt.new.marks) (one_more done xs n _ inside)
    (c.if-not-take_receipt.ensures.taken refl (done ++ take n xs) (c.receipts.invariant done m))

pub returns-clause-taken : goal.returns-clause-taken
returns-clause-taken c t done m =
    let xs = c.args.receipts.now in
    let n = c.receipts.receipt-index in
    subst (λ l. AreMarked c.args.log.now (done ++ l) c.receipts.marks) (take_all n xs (omega (arith, c.receipts-test.false))) (c.receipts.invariant done m)
