use Rattle.std.proofs.Common.{ℕ, ◌+◌, ◌<◌, get_or}
use Rattle.ch_contract.specs.declared.contraction.Receipt.{Receipt}
use Rattle.ch_workers.proofs.account.rises.Given as goal

abbrev pub invariant-places : goal.invariant-places
invariant-places l = (k : ℕ) (d : Receipt) → k + 1 < l.place → (get_or l.receipts k d).rank < (get_or l.receipts (k + 1) d).rank
