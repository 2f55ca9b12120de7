use Rattle.std.proofs.Common.{ℕ, ◌<◌, List, ◌∷◌, length, subst, sym}
use Rattle.std.specs.BinaryHeap.{heap_items, IsHeap}
use Rattle.std.specs.List.Sorted.{IsPermutation}
use Rattle.std.specs.Ordering.{nat_cmp}
use Rattle.ch_cost.specs.Cost.{length_of}
use Rattle.ch_graph.specs.declared.mark.Mark.{Mark}
use Rattle.ch_graph.specs.Marks.{mark, Improves}
use Rattle.ch_graph.specs.Queue.{Entry, entry, entry_cmp}
use Rattle.ch_query.specs.declared.label.Label.{Label}
use Rattle.ch_query.specs.Front.{IsQueueOf}
use Rattle.ch_query.specs.Marks.{label_cost}
use Rattle.ch_query.proofs.QueueEntries.{queue-opened}
use Rattle.ch_query.proofs.frontier.Frontier.open.Goals as goal

pub invariant_of-self-2 : goal.invariant_of-self-2
invariant_of-self-2 c =
    let within : c.args.rank < length c.self.inside.marks = subst (λ (xs : List (Mark Label)). c.args.rank < length xs) (sym c.self.view_is) c.requires.rank_in in
    let improves : Improves label_cost c.args.label.cost (mark c.self.inside.marks c.args.rank) = subst (λ (xs : List (Mark Label)). Improves label_cost c.args.label.cost (mark xs c.args.rank)) (sym c.self.view_is) c.requires.improves in
    let moved : IsPermutation (entry (length_of c.args.label.cost) c.args.rank ∷ heap_items c.reserve.new.self) (heap_items c.push.new.self) = subst
    (λ n. IsPermutation (record { 0 = (n, c.args.rank) } ∷ heap_items c.reserve.new.self)
    (heap_items c.push.new.self)) c.length.ensures c.in_ok-push.ensures.permutation in
    let queue : IsQueueOf c.self.inside.marks (heap_items c.reserve.new.self) = subst (λ (xs : List (Entry ℕ)). IsQueueOf c.self.inside.marks xs) (sym c.reserve.ensures.items) c.self.invariant in
    subst (λ (ms : List (Mark Label)). IsQueueOf ms (heap_items c.push.new.self)) (sym c.in_ok-open.ensures.opened)
    (queue-opened c.self.inside.marks c.args.label queue within improves moved (c.in_ok-push.ensures.heap_order queue.heap))
