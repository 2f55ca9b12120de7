use Rattle.std.proofs.lemmas.Bool.{iff_false}
use Rattle.std.specs.BinaryHeap.{heap_items}
use Rattle.ch_query.proofs.QueueEntries.{none_up_to}
use Rattle.ch_query.proofs.frontier.pop_up_to.Goals as goal

pub returns-then-not-is_up_to-clause-none : goal.returns-then-not-is_up_to-clause-none
returns-then-not-is_up_to-clause-none c = none_up_to c.in_ok-length.field-0.now (heap_items c.args.queue.now) c.args.limit (c.in_ok-length.ensures.greatest c.requires) (iff_false c.is_up_to.ensures c.if-not-is_up_to.true)
