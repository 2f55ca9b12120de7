use Rattle.std.proofs.Common.{◌≡◌, ◌+◌, ◌≤◌, ◌++◌, length, vec_capacity}
use Rattle.ch_core.proofs.book.append.Given as goal

-- the versions so far were added, and there is room for the rest
abbrev pub invariant-fresh : goal.invariant-fresh
invariant-fresh l = record { items : l.book.items ≡ l.initial.book.items ++ l.yielded; room : length l.book.items + length l.version-iterator.rest.items ≤ vec_capacity l.book }
