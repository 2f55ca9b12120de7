use Rattle.std.proofs.Common.{ℕ, ◌≡◌, ◌+◌, ◌/◌, ◌%◌, ◌<◌, ◌≤◌, length, slice_index}
use Rattle.ch_table.specs.Packed.{sum_over}
use Rattle.ch_table.proofs.packed.unpack.Given as goal

abbrev pub invariant-lanes : goal.invariant-lanes
invariant-lanes g l = record {
  count : length l.labels ≡ g.row.N;
  sum_count : length l.own ≡ g.row.N;
  done : (j : ℕ) → j < l.lane → slice_index l.labels j ≡ slice_index l.packed j / 1024;
  left : (j : ℕ) → l.lane ≤ j → slice_index l.labels j ≡ slice_index l.packed j;
  none : (j : ℕ) → j < l.lane → slice_index l.packed j % 1024 ≡ 0 → slice_index l.own j ≡ slice_index l.initial.own j;
  some : (j at : ℕ) → j < l.lane → at + 1 ≡ l.begin + slice_index l.packed j % 1024 → l.begin ≤ at → slice_index l.own j ≡ sum_over l.steps.tails.items l.numbers l.sums j at;
  rest : (j : ℕ) → l.lane ≤ j → slice_index l.own j ≡ slice_index l.initial.own j;
}
