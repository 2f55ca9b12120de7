use Rattle.std.proofs.Common.{ℕ, ◌≡◌, ◌+◌, ◌<◌, ◌≤◌, length, slice_index}
use Rattle.ch_query.specs.Counting.{all_below}
use Rattle.ch_query.proofs.upward.sum_up.Given as goal

abbrev pub invariant-ranks : goal.invariant-ranks
invariant-ranks l = record {
  nodes : length l.counts.items ≡ length l.initial.counts.items;
  sum : l.sum ≡ all_below l.hierarchy l.fn.side l.rank;
  done : (r : ℕ) → r < l.rank → slice_index l.counts.items r ≡ all_below l.hierarchy l.fn.side (r + 1);
  left : (r : ℕ) → l.rank ≤ r → slice_index l.counts.items r ≡ slice_index l.initial.counts.items r;
  limit : l.counts.limit ≡ l.initial.counts.limit;
}
