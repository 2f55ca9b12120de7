use Rattle.std.proofs.Common.{List, ◌++◌, take}
use Rattle.ch_contract.specs.declared.contraction.Receipt.{Receipt}
use Rattle.ch_workers.specs.Account.{AreMarked}
use Rattle.ch_workers.proofs.account.take_list.Given as goal

abbrev pub invariant-receipts : goal.invariant-receipts
invariant-receipts l = (done : List Receipt) → AreMarked l.log done l.fn.marks → AreMarked l.log (done ++ take l.receipt-index l.receipts) l.marks
