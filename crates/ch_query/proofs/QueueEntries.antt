-- The queue of a side, as entries come and go.
use Rattle.std.proofs.Common.{ℕ, ◌≡◌, ◌<◌, ◌≤◌, false, List, [], ◌∷◌, length, set, replicate, Option, Some, None, subst, ap, ◌∙◌, arith}
use Rattle.std.proofs.lemmas.List.Elements.{All-weaker, All-contains, All-from_recursion}
use Rattle.std.specs.List.{All}
use Rattle.std.specs.List.Sorted.{IsPermutation}
use Rattle.std.specs.Ordering.{is_lt, ordering_then, nat_cmp, MatchOrdering}
use Rattle.std.specs.Cmp.{ranks}
use Rattle.std.specs.declared.cmp.Ordering.{Ordering}
use Rattle.std.specs.declared.cmp.Ordering.TheVariants.{Less, Equal, Greater}
use Rattle.std.specs.BinaryHeap.{IsHeap, IsUpperBound}
use Rattle.ch_cost.specs.declared.cost.Cost.{Cost}
use Rattle.ch_cost.specs.Cost.{length_of}
use Rattle.ch_cost.specs.Cost.Laws.{at_most_refl, length_of-at_most}
use Rattle.ch_graph.specs.declared.mark.Mark.{Mark}
use Rattle.ch_graph.specs.declared.mark.Mark.TheVariants.{Unseen, Open, Settled}
use Rattle.ch_graph.specs.Marks.{mark, HasLabel, Improves}
use Rattle.ch_graph.specs.Queue.{Entry, entry, entry_cmp, IsEntryOf}
use Rattle.ch_graph.specs.Marks.Laws.{put-set, mark-replicate, label-in, label_open, one_label, improves-below, at_most-from_label}
use Rattle.ch_graph.specs.Queue.Laws.{queue-new, queue-popped, queue-first}
use Rattle.ch_graph.specs.Queue.Laws as queues
use Rattle.ch_query.specs.declared.label.Label.{Label}
use Rattle.ch_query.specs.Marks.{label_cost, IsUpTo, IsLeastOpen, IsStopped}
use Rattle.ch_query.specs.Front.{label_length, IsQueueOf}
use Rattle.ch_query.proofs.MarkOrder.{limit-longer}

-- The order of entries

-- the one entry is shorter than the other, or as long and of no higher rank
pub record IsFirst (x e : Entry ℕ) : Type 0 where
  pub length : x.0.0 ≤ e.0.0
  pub rank : x.0.0 ≡ e.0.0 → x.0.1 ≤ e.0.1

-- what the two comparisons say, where an entry isn't less
not_less : {x e : Entry ℕ} (first second : Ordering) → MatchOrdering first (e.0.0 < x.0.0) (e.0.0 ≡ x.0.0) (x.0.0 < e.0.0) → MatchOrdering second (e.0.1 < x.0.1) (e.0.1 ≡ x.0.1) (x.0.1 < e.0.1) → is_lt (ordering_then first second) ≡ false → IsFirst x e
not_less Less second h k is = absurd (cc)
not_less Equal Less h k is = absurd (cc)
not_less Equal Equal h k is = record { length = omega (arith, h); rank = λ d. omega (arith, k) }
not_less Equal Greater h k is = record { length = omega (arith, h); rank = λ d. omega (arith, k) }
not_less Greater second h k is = record { length = omega (arith, h); rank = λ d. absurd (omega (arith, h, d)) }

first : (x e : Entry ℕ) → is_lt (entry_cmp nat_cmp x e) ≡ false → IsFirst x e
first x e = not_less (nat_cmp e.0.0 x.0.0) (nat_cmp e.0.1 x.0.1) (ranks e.0.0 x.0.0) (ranks e.0.1 x.0.1)

-- what is no shorter than another is no more up to a limit than that
up_to-shorter : {m n : ℕ} (limit : Option Cost) → m ≤ n → IsUpTo n limit → IsUpTo m limit
up_to-shorter None most up = tt
up_to-shorter (Some b) most up = omega (arith, most, up)

-- where the greatest entry isn't up to the limit, none is
pub none_up_to : (x : Entry ℕ) (xs : List (Entry ℕ)) (limit : Option Cost) → IsUpperBound (entry_cmp nat_cmp) x xs → (IsUpTo x.0.0 limit → ⊥) → All (λ (e : Entry ℕ). IsUpTo e.0.0 limit → ⊥) xs
none_up_to x xs limit top never = All-weaker (λ (e : Entry ℕ). is_lt (entry_cmp nat_cmp x e) ≡ false) (λ (e : Entry ℕ). IsUpTo e.0.0 limit → ⊥)
    (λ e h up. never (up_to-shorter limit (first x e h).length up)) xs
    (All-from_recursion (λ (e : Entry ℕ). is_lt (entry_cmp nat_cmp x e) ≡ false) xs top)

-- where no entry is up to the limit, no open node is below it
pub queue-stopped : (marks : List (Mark Label)) {entries : List (Entry ℕ)} {limit : Option Cost} → IsQueueOf marks entries → All (λ (e : Entry ℕ). IsUpTo e.0.0 limit → ⊥) entries → IsStopped marks limit
queue-stopped marks {entries} {limit} queue none r e opens =
    limit-longer (All-contains (λ (x : Entry ℕ). IsUpTo x.0.0 limit → ⊥) entries (entry (length_of e.cost) r) none (queue.waits r e opens))

-- Steps

-- nothing is seen
pub queue-unseen : (nodes : ℕ) {marks : List (Mark Label)} {entries : List (Entry ℕ)} → marks ≡ replicate nodes Unseen → entries ≡ [] → IsHeap (entry_cmp nat_cmp) entries → IsQueueOf marks entries
queue-unseen nodes {marks} {entries} unseen no_entry heap =
    queue-new ◌≤◌ label_length nat_cmp (mark marks) entries (λ r. ap (λ (ms : List (Mark Label)). mark ms r) unseen ∙ mark-replicate nodes r) no_entry heap

-- a node is opened and put into the queue
module _ (marks : List (Mark Label)) {entries new : List (Entry ℕ)} {r : ℕ} (e : Label)
    (queue : IsQueueOf marks entries) (within : r < length marks) (improves : Improves label_cost e.cost (mark marks r))
    (moved : IsPermutation (entry (length_of e.cost) r ∷ entries) new) (heap : IsHeap (entry_cmp nat_cmp) new) where
  shorter : (d : Label) (n : ℕ) → HasLabel (mark marks r) d → length_of d.cost ≤ n → length_of e.cost ≤ n
  shorter d n has most = omega (arith, most, length_of-at_most (improves-below label_cost (mark marks r) e.cost d.cost improves (at_most-from_label label_cost (mark marks r) d d.cost has (at_most_refl d.cost))))

  pub queue-opened : IsQueueOf (set marks r (Open e)) new
  queue-opened = queues.queue-open ◌≤◌ label_length nat_cmp (mark marks) (mark (set marks r (Open e))) entries new queue r e (put-set marks r (Open e) within) (omega arith) shorter moved heap

-- an entry was taken out
module _ (marks : List (Mark Label)) {entries new : List (Entry ℕ)} {x : Entry ℕ} (queue : IsQueueOf marks entries) (moved : IsPermutation entries (x ∷ new)) where
  popped : IsEntryOf ◌≤◌ label_length (mark marks) x
  popped = queue-popped ◌≤◌ label_length nat_cmp (mark marks) (mark marks) entries new queue x moved

  -- its rank is in range
  pub queue-in : x.0.1 < length marks
  queue-in = label-in marks x.0.1 popped.0 popped.1

  -- where its node isn't open, it is passed over
  pub queue-passed : IsHeap (entry_cmp nat_cmp) new → ((e : Label) → mark marks x.0.1 ≡ Open e → ⊥) → IsQueueOf marks new
  queue-passed heap closed = queues.queue-pass ◌≤◌ label_length nat_cmp (mark marks) (mark marks) entries new queue x moved heap closed

  module _ {e : Label} (opens : mark marks x.0.1 ≡ Open e) where
    -- and an open one is settled
    pub queue-settled : IsHeap (entry_cmp nat_cmp) new → IsQueueOf (set marks x.0.1 (Settled e)) new
    queue-settled heap = queues.queue-settle ◌≤◌ label_length nat_cmp (mark marks) (mark (set marks x.0.1 (Settled e))) entries new queue x moved e opens (put-set marks x.0.1 (Settled e) queue-in) heap

    -- which comes before all open nodes, where its entry is the greatest
    pub queue-least : IsUpperBound (entry_cmp nat_cmp) x entries → IsLeastOpen marks x.0.1 e
    queue-least top = record {
      opens = opens;
      least = λ q d is.
          let most : length_of e.cost ≤ x.0.0 = subst (λ (l : Label). length_of l.cost ≤ x.0.0) (one_label (mark marks x.0.1) popped.0 e popped.1 (label_open (mark marks x.0.1) e opens)) popped.2 in
          let before : IsFirst x (entry (length_of d.cost) q) = first x (entry (length_of d.cost) q) (queue-first ◌≤◌ label_length nat_cmp (mark marks) entries x queue top q d is) in
          record {
            length = omega (arith, most, before.length);
            rank = λ alike. before.rank (omega (arith, most, before.length, alike));
          };
    }
