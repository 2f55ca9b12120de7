use Rattle.std.proofs.Common.{◌≡◌, ◌++◌, take}
use Rattle.ch_multiqueue.specs.Entries.{items_of}
use Rattle.ch_multiqueue.proofs.heap.Heap.copy_into.Given as goal

-- the items of the entries so far were put at the end
abbrev pub invariant-entries : goal.invariant-entries
invariant-entries l = l.list.items ≡ l.initial.list.items ++ items_of (take l.entry-index l.entry-items)
