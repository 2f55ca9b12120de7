use Rattle.std.proofs.Common.{◌∙◌, List, subst, sym}
use Rattle.std.specs.BinaryHeap.{heap_items}
use Rattle.ch_graph.specs.declared.mark.Mark.{Mark}
use Rattle.ch_query.specs.declared.label.Label.{Label}
use Rattle.ch_query.specs.Front.{IsQueueOf}
use Rattle.ch_query.specs.Marks.{IsLeastOpen, IsStopped}
use Rattle.ch_query.proofs.QueueEntries.{queue-in, queue-passed, queue-settled, queue-least, queue-stopped}
use Rattle.ch_query.proofs.frontier.Frontier.settle_next.Goals as goal

pub settle-requires : goal.settle-requires
settle-requires c = queue-in c.entries.self-inside.marks c.entries.invariant.queue c.in-Some.ensures.moved

pub invariant_of-self : goal.invariant_of-self
invariant_of-self c = subst (λ (ms : List (Mark Label)). IsQueueOf ms (heap_items c.pop_up_to.new.queue)) (sym c.in-Some-settle.ensures.settled)
    (queue-settled c.entries.self-inside.marks c.entries.invariant.queue c.in-Some.ensures.moved c.in-Some-settle.ensures.open c.pop_up_to.ensures.heap)

pub returns-in-Some-settle-clause-least : goal.returns-in-Some-settle-clause-least
returns-in-Some-settle-clause-least c = subst (λ (ms : List (Mark Label)). IsLeastOpen ms c.in-Some.field-0.0.1 c.in-Some-settle.label) (c.entries.invariant.same ∙ c.self.view_is)
    (queue-least c.entries.self-inside.marks c.entries.invariant.queue c.in-Some.ensures.moved c.in-Some-settle.ensures.open c.in-Some.ensures.top)

pub entries-preserved : goal.entries-preserved
entries-preserved c = record {
  same = c.in_default-settle.ensures.unchanged ∙ c.entries.invariant.same;
  queue = subst (λ (ms : List (Mark Label)). IsQueueOf ms (heap_items c.pop_up_to.new.queue)) (sym c.in_default-settle.ensures.unchanged)
      (queue-passed c.entries.self-inside.marks c.entries.invariant.queue c.in-Some.ensures.moved c.pop_up_to.ensures.heap c.in_default-settle.ensures.closed);
}

pub returns-clause-none : goal.returns-clause-none
returns-clause-none c = subst (λ (ms : List (Mark Label)). IsStopped ms c.args.limit) (c.entries.invariant.same ∙ c.self.view_is)
    (queue-stopped c.entries.self-inside.marks c.entries.invariant.queue c.in_default.ensures.none)
