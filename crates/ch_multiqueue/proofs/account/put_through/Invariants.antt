use Rattle.std.proofs.Common.{◌≡◌, take}
use Rattle.ch_multiqueue.specs.Accounts.{all_put}
use Rattle.ch_multiqueue.proofs.account.put_through.Given as goal

-- the items of the passes so far
abbrev pub invariant-passes : goal.invariant-passes
invariant-passes l = l.items.items ≡ all_put (take l.pass-index l.passes)
