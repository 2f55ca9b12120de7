use Rattle.std.proofs.Common.{ℕ, ◌≡◌, ◌+◌, ◌<◌, ◌≤◌, length, slice_index}
use Rattle.ch_table.specs.Labels.{IsLeastOver}
use Rattle.ch_table.specs.Sums.{IsSumOver}
use Rattle.ch_table.proofs.sum_table.pass_over_sums.Given as goal

abbrev pub invariant-lanes : goal.invariant-lanes
invariant-lanes g l = record {
  count : length l.least ≡ g.row.N;
  sum_count : length l.sums ≡ g.row.N;
  done : (j : ℕ) → j < l.lane → IsLeastOver (slice_index l.initial.least j) (slice_index l.tail j + l.long) (slice_index l.least j);
  sums : (j : ℕ) → j < l.lane → IsSumOver (slice_index l.initial.least j) (slice_index l.tail j + l.long) (slice_index l.initial.sums j) (slice_index l.tail_sums j + l.number) (slice_index l.sums j);
  rest : (j : ℕ) → l.lane ≤ j → slice_index l.least j ≡ slice_index l.initial.least j;
  sum_rest : (j : ℕ) → l.lane ≤ j → slice_index l.sums j ≡ slice_index l.initial.sums j;
}
