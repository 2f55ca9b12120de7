use Rattle.std.proofs.Common.{refl, arith}
use Rattle.ch_workers.proofs.ReceiptMarks.{rises_by_steps}
use Rattle.ch_workers.proofs.account.rises.Goals as goal

pub returns : goal.returns
returns c = (λ t. rises_by_steps c.args.receipts.now (λ k d within. c.places.invariant k d (omega (arith, within, c.places-test.false))), λ h. refl)
