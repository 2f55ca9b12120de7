use Rattle.std.proofs.Common.{◌≡◌, length, map, take, All, vec_items}
use Rattle.ch_workers.specs.Account.{all_of, Rises, AreMarked}
use Rattle.ch_workers.proofs.account.is_account.Given as goal

abbrev pub invariant-lists : goal.invariant-lists
invariant-lists l = record {
  size : length l.marks.items ≡ length l.log;
  rising : All Rises (take l.list-index (map vec_items l.receipts));
  marked : AreMarked l.log (all_of (take l.list-index (map vec_items l.receipts))) l.marks.items;
}
