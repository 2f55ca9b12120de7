use Rattle.std.proofs.Common.{◌≡◌, ◌<◌, ◌∙◌, List, length, subst, sym, arith}
use Rattle.std.proofs.lemmas.Grind.{common_steps}
use Rattle.std.proofs.lemmas.List.{get_or_read}
use Rattle.std.specs.BinaryHeap.{heap_items}
use Rattle.ch_cost.specs.declared.cost.Cost.{Cost}
use Rattle.ch_graph.specs.declared.mark.Mark.{Mark}
use Rattle.ch_graph.specs.declared.mark.Mark.TheVariants.{Unseen}
use Rattle.ch_graph.specs.Marks.{mark}
use Rattle.ch_graph.specs.Search.{IsLeastOpen}
use Rattle.ch_graph.proofs.QueueEntries.{queue-in, queue-pass, queue-settle, queue-least}
use Rattle.ch_graph.proofs.frontier.Frontier.settle_next.Goals as goal

pub invariant_of-self : goal.invariant_of-self
invariant_of-self c =
    let marks : List (Mark Cost) = c.entries.self-inside.marks.items in
    let place : c.in-Some.field-0.0.1 < length marks = queue-in marks (heap_items c.entries.self-inside.queue) (heap_items c.pop.new.self) c.in-Some.field-0 c.entries.invariant.queue c.in-Some.ensures.permutation in
    let read : c.index.result.now ≡ mark marks c.in-Some.field-0.0.1 = get_or_read marks c.in-Some.field-0.0.1 c.index.result.now place c.index.ensures Unseen in
    queue-settle marks (heap_items c.entries.self-inside.queue) (heap_items c.pop.new.self) c.in-Some.field-0 c.entries.invariant.queue c.in-Some.ensures.permutation c.in-Open.known (sym read ∙ c.in-Open.is) (c.in-Some.ensures.heap_order c.entries.invariant.queue.heap).0

pub returns-in-Open-clause-least : goal.returns-in-Open-clause-least
returns-in-Open-clause-least c =
    let marks : List (Mark Cost) = c.entries.self-inside.marks.items in
    let place : c.in-Some.field-0.0.1 < length marks = queue-in marks (heap_items c.entries.self-inside.queue) (heap_items c.pop.new.self) c.in-Some.field-0 c.entries.invariant.queue c.in-Some.ensures.permutation in
    let read : c.index.result.now ≡ mark marks c.in-Some.field-0.0.1 = get_or_read marks c.in-Some.field-0.0.1 c.index.result.now place c.index.ensures Unseen in
    subst (λ (xs : List (Mark Cost)). IsLeastOpen xs c.in-Some.field-0.0.1 c.in-Open.known) (c.entries.invariant.same ∙ c.self.view_is)
    (queue-least marks (heap_items c.entries.self-inside.queue)
    (heap_items c.pop.new.self) c.in-Some.field-0 c.entries.invariant.queue c.in-Some.ensures.permutation c.in-Open.known
    (sym read ∙ c.in-Open.is) (c.in-Some.ensures.heap_order c.entries.invariant.queue.heap).1)

pub entries-preserved : goal.entries-preserved
entries-preserved c =
    let marks : List (Mark Cost) = c.entries.self-inside.marks.items in
    let place : c.in-Some.field-0.0.1 < length marks = queue-in marks (heap_items c.entries.self-inside.queue) (heap_items c.pop.new.self) c.in-Some.field-0 c.entries.invariant.queue c.in-Some.ensures.permutation in
    let read : c.index.result.now ≡ mark marks c.in-Some.field-0.0.1 = get_or_read marks c.in-Some.field-0.0.1 c.index.result.now place c.index.ensures Unseen in
    record {
      same = c.entries.invariant.same;
      queue = queue-pass marks (heap_items c.entries.self-inside.queue) (heap_items c.pop.new.self) c.in-Some.field-0 c.entries.invariant.queue c.in-Some.ensures.permutation (c.in-Some.ensures.heap_order c.entries.invariant.queue.heap).0 (λ d is. c.in_default-index.not-Open d (read ∙ is));
    }

pub index-requires : goal.index-requires
index-requires c = grind (arith, common_steps, queue-in c.entries.self-inside.marks.items (heap_items c.entries.self-inside.queue) (heap_items c.pop.new.self) c.in-Some.field-0 c.entries.invariant.queue c.in-Some.ensures.permutation)

pub index_mut-requires : goal.index_mut-requires
index_mut-requires c = grind (arith, common_steps, queue-in c.entries.self-inside.marks.items (heap_items c.entries.self-inside.queue) (heap_items c.pop.new.self) c.in-Some.field-0 c.entries.invariant.queue c.in-Some.ensures.permutation)
