use Rattle.std.proofs.Common.{length}
use Rattle.ch_query.proofs.QueueEntries.{queue-unseen}
use Rattle.ch_query.proofs.frontier.Frontier.clear.Goals as goal

pub invariant_of-self : goal.invariant_of-self
invariant_of-self c = queue-unseen (length c.self.inside.marks) c.clear-2.ensures c.clear.ensures.items c.clear.ensures.heap_order
