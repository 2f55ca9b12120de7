use Rattle.std.proofs.Common.{◌≡◌}
use Rattle.std.specs.BinaryHeap.{heap_items, heap_len}
use Rattle.ch_query.specs.Front.{IsQueueOf}
use Rattle.ch_query.proofs.frontier.Frontier.settle_next.Given as goal

-- entries were passed over, and no mark was written
abbrev pub invariant-entries : goal.invariant-entries
invariant-entries l = record {
  same : l.self-inside.marks ≡ l.initial.self-inside.marks;
  queue : IsQueueOf l.self-inside.marks (heap_items l.self-inside.queue);
}

abbrev pub decreases-entries : goal.decreases-entries
decreases-entries l = heap_len l.self-inside.queue
