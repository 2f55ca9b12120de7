use Rattle.std.proofs.Common.{◌≡◌, length}
use Rattle.ch_contract.specs.Ledger.{IsLog}
use Rattle.test_workers.proofs.accounts.falling_log.Given as goal

abbrev pub invariant-ranks : goal.invariant-ranks
invariant-ranks l = record {
  count : length l.log.items ≡ l.rank;
  log : IsLog l.log.items;
}
