use Rattle.std.proofs.Common.{ℕ, ◌≡◌, ◌+◌, ◌<◌, ◌≤◌, length, slice_index}
use Rattle.ch_table.specs.Labels.{IsLeastOver}
use Rattle.ch_table.proofs.table.pass_over.Given as goal

abbrev pub invariant-lanes : goal.invariant-lanes
invariant-lanes g l = record {
  count : length l.least ≡ g.row.N;
  done : (j : ℕ) → j < l.lane → IsLeastOver (slice_index l.initial.least j) (slice_index l.tail j + l.long) (slice_index l.least j);
  rest : (j : ℕ) → l.lane ≤ j → slice_index l.least j ≡ slice_index l.initial.least j;
}
