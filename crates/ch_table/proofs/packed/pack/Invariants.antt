use Rattle.std.proofs.Common.{ℕ, ◌≡◌, ◌*◌, ◌<◌, ◌≤◌, length, slice_index}
use Rattle.ch_table.proofs.packed.pack.Given as goal

abbrev pub invariant-lanes : goal.invariant-lanes
invariant-lanes g l = record {
  count : length l.packed ≡ g.row.N;
  done : (j : ℕ) → j < l.lane → slice_index l.packed j ≡ slice_index l.labels j * 1024;
  rest : (j : ℕ) → l.lane ≤ j → slice_index l.packed j ≡ slice_index l.labels j;
}
