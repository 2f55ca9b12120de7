use Rattle.ch_query.proofs.QueueEntries.{queue-unseen}
use Rattle.ch_query.proofs.frontier.Frontier.new.Goals as goal

pub invariant_of-result : goal.invariant_of-result
invariant_of-result c = queue-unseen c.args.nodes c.in_ok-new.ensures c.new-2.ensures.items c.new-2.ensures.heap_order
