use Rattle.std.proofs.Common.{ℕ, ◌≡◌, ◌+◌, ◌*◌, ◌<◌, ◌≤◌, length, slice_index}
use Rattle.ch_table.specs.Labels.{IsLeastOver}
use Rattle.ch_table.proofs.packed.pass_over_packed.Given as goal

abbrev pub invariant-lanes : goal.invariant-lanes
invariant-lanes g l = record {
  count : length l.packed ≡ g.row.N;
  done : (j : ℕ) → j < l.lane → IsLeastOver (slice_index l.initial.packed j) ((slice_index l.tail j + l.long) * 1024 + l.link) (slice_index l.packed j);
  rest : (j : ℕ) → l.lane ≤ j → slice_index l.packed j ≡ slice_index l.initial.packed j;
}
