use Rattle.std.proofs.Common.{List, ◌∷◌, subst, rules}
use Rattle.std.specs.BinaryHeap.{heap_items}
use Rattle.std.specs.List.Sorted.{IsPermutation}
use Rattle.ch_multiqueue.specs.declared.item.Item.{Item}
use Rattle.ch_multiqueue.specs.Entries.{items_of}
use Rattle.ch_multiqueue.proofs.Leaving.{items-put}
use Rattle.ch_multiqueue.proofs.heap.Heap.put.Goals as goal

pub returns-clause-put : goal.returns-clause-put
returns-clause-put c =
    subst (λ (items : List Item). IsPermutation (c.args.item ∷ items) (items_of (heap_items c.push.new.self))) c.self.view_is (items-put c.args.item (heap_items c.self.inside.entries) (heap_items c.push.new.self) c.in_default.ensures.permutation)

pub returns-in-Err-clause-back : goal.returns-in-Err-clause-back
returns-in-Err-clause-back c = search rules
