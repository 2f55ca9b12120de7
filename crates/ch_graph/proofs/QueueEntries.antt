-- The queue of the plain search, whose keys are the costs.
use Rattle.std.proofs.Common.{◌≡◌, ℕ, ◌<◌, false, List, ◌∷◌, length, set, refl}
use Rattle.std.specs.List.Sorted.{IsPermutation}
use Rattle.std.specs.Ordering.{is_lt, ordering_then, nat_cmp}
use Rattle.std.specs.declared.cmp.Ordering.{Ordering}
use Rattle.std.specs.declared.cmp.Ordering.TheVariants.{Less, Equal, Greater}
use Rattle.std.specs.BinaryHeap.{IsHeap, IsUpperBound}
use Rattle.ch_cost.specs.declared.cost.Cost.{Cost}
use Rattle.ch_cost.specs.Cost.{◌≼◌, compare}
use Rattle.ch_cost.specs.Cost.Laws.{at_most_refl, at_most_trans, at_most-from_not_less}
use Rattle.ch_graph.specs.declared.mark.Mark.{Mark}
use Rattle.ch_graph.specs.declared.mark.Mark.TheVariants.{Open, Settled}
use Rattle.ch_graph.specs.Marks.{mark, Improves}
use Rattle.ch_graph.specs.Queue.{Entry, entry, entry_cmp, IsEntryOf}
use Rattle.ch_graph.specs.Search.{own_cost, IsQueueOf, IsLeastOpen}
use Rattle.ch_graph.specs.Marks.Laws.{put-set, label-in, label_open, improves-below, at_most-label, at_most-from_label}
use Rattle.ch_graph.specs.Queue.Laws as queues
use Rattle.ch_graph.specs.Queue.Laws.{queue-first, queue-popped}

-- a node is opened with a cost that improves its mark, and put into the queue
pub queue-open : (marks : List (Mark Cost)) (entries after : List (Entry Cost)) (v : ℕ) (c : Cost) → IsQueueOf marks entries → v < length marks
    → Improves own_cost c (mark marks v) → IsPermutation (entry c v ∷ entries) after → IsHeap (entry_cmp compare) after
    → IsQueueOf (set marks v (Open c)) after
queue-open marks entries after v c queue h improves moved heap = queues.queue-open ◌≼◌ own_cost compare (mark marks)
    (mark (set marks v (Open c))) entries after queue v c (put-set marks v (Open c) h) (at_most_refl c)
    (λ d k has most. improves-below own_cost (mark marks v) c k improves (at_most-from_label own_cost (mark marks v) d k has most)) moved heap

-- an entry was taken out
module _ (marks : List (Mark Cost)) (entries after : List (Entry Cost)) (x : Entry Cost) (queue : IsQueueOf marks entries) (moved : IsPermutation entries (x ∷ after)) where
  popped : IsEntryOf ◌≼◌ own_cost (mark marks) x
  popped = queue-popped ◌≼◌ own_cost compare (mark marks) (mark marks) entries after queue x moved

  -- its node is in range
  pub queue-in : x.0.1 < length marks
  queue-in = label-in marks x.0.1 popped.0 popped.1

  -- where that isn't open, it is passed over
  pub queue-pass : IsHeap (entry_cmp compare) after → ((c : Cost) → mark marks x.0.1 ≡ Open c → ⊥) → IsQueueOf marks after
  queue-pass heap closed = queues.queue-pass ◌≼◌ own_cost compare (mark marks) (mark marks) entries after queue x moved heap closed

  module _ (c : Cost) (opens : mark marks x.0.1 ≡ Open c) where
    -- and where it is, it is settled
    pub queue-settle : IsHeap (entry_cmp compare) after → IsQueueOf (set marks x.0.1 (Settled c)) after
    queue-settle heap = queues.queue-settle ◌≼◌ own_cost compare (mark marks) (mark (set marks x.0.1 (Settled c))) entries after queue x moved c opens (put-set marks x.0.1 (Settled c) queue-in) heap

    known : c ≼ x.0.0
    known = at_most-label own_cost (mark marks x.0.1) c x.0.0 (label_open (mark marks x.0.1) c opens) (at_most-from_label own_cost (mark marks x.0.1) popped.0 x.0.0 popped.1 popped.2)

    not_less-first : (a b : Ordering) → is_lt (ordering_then a b) ≡ false → is_lt a ≡ false
    not_less-first Less b e = e
    not_less-first Equal b e = refl
    not_less-first Greater b e = refl

    -- where its entry is the greatest, it has the least cost of all open nodes
    pub queue-least : IsUpperBound (entry_cmp compare) x entries → IsLeastOpen marks x.0.1 c
    queue-least top = record {
      opens = opens;
      least = λ u d is. at_most_trans known (at_most-from_not_less d x.0.0 (not_less-first (compare d x.0.0) (nat_cmp u x.0.1) (queue-first ◌≼◌ own_cost compare (mark marks) entries x queue top u d is)));
    }
