use Rattle.std.proofs.Common.{List, ◌<◌, length, refl, subst, arith}
use Rattle.std.specs.BinaryHeap.{heap_items}
use Rattle.ch_multiqueue.specs.declared.item.Item.{Item}
use Rattle.ch_multiqueue.specs.Items.{IsLeastOf}
use Rattle.ch_multiqueue.proofs.Leaving.{least-first}
use Rattle.ch_multiqueue.proofs.heap.Heap.top.Goals as goal

pub returns-clause-least : goal.returns-clause-least
returns-clause-least c =
    let some : 0 < length (heap_items c.self.inside.entries) = omega (arith, c.in_ok-item.ensures.variant.0 refl, c.self.inside.entries.data.ok) in
    subst (λ (items : List Item). IsLeastOf items c.in_ok-item.field-0.now.0) c.self.view_is (least-first c.in_ok-item.field-0.now (heap_items c.self.inside.entries) some c.in_ok-item.ensures.lookup (c.in_ok-item.ensures.greatest c.self.invariant))
