use Rattle.std.proofs.Common.{take}
use Rattle.ch_contract.specs.Commit.{NoneIsOld}
use Rattle.ch_contract.proofs.accepting.first_old.Given as goal

abbrev pub invariant-rows : goal.invariant-rows
invariant-rows l = NoneIsOld l.ledger (take l.seen-index l.rows)
