use Rattle.ch_multiqueue.proofs.Comparing.{left_if_same}
use Rattle.ch_multiqueue.proofs.multi_queue.MultiQueue.settle.Goals as goal

pub returns-clause-left : goal.returns-clause-left
returns-clause-left c =
    left_if_same _ c.in_ok-left.left c.in_ok-put.put c.in_ok-gone.gone c.where_balanced.result c.in_ok-left.ensures.sorted
    c.in_ok-put.ensures.same (rw (← c.as_slice.ensures.value) c.in_ok-gone.ensures.same) c.where_balanced.ensures
