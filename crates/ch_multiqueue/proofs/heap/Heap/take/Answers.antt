use Rattle.std.proofs.Common.{List, ◌∷◌, subst}
use Rattle.std.specs.BinaryHeap.{heap_items}
use Rattle.std.specs.List.Sorted.{IsPermutation}
use Rattle.ch_multiqueue.specs.declared.item.Item.{Item}
use Rattle.ch_multiqueue.specs.Items.{IsLeastOf}
use Rattle.ch_multiqueue.specs.Entries.{items_of}
use Rattle.ch_multiqueue.proofs.Leaving.{items-taken, least-taken}
use Rattle.ch_multiqueue.proofs.heap.Heap.take.Goals as goal

pub returns-clause-least : goal.returns-clause-least
returns-clause-least c =
    subst (λ (items : List Item). IsLeastOf items c.in_ok-item.field-0.0) c.self.view_is (least-taken c.in_ok-item.field-0 (heap_items c.self.inside.entries) (heap_items c.pop.new.self) c.in_ok-item.ensures.permutation (c.in_ok-item.ensures.heap_order c.self.invariant).1)

pub returns-clause-rest : goal.returns-clause-rest
returns-clause-rest c =
    subst (λ (items : List Item). IsPermutation items (c.in_ok-item.field-0.0 ∷ items_of (heap_items c.pop.new.self))) c.self.view_is (items-taken c.in_ok-item.field-0 (heap_items c.self.inside.entries) (heap_items c.pop.new.self) c.in_ok-item.ensures.permutation)
