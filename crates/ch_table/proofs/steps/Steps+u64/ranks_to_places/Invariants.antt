use Rattle.std.proofs.Common.{ℕ, ◌≡◌, ◌-◌, ◌<◌, ◌≤◌, length, slice_index}
use Rattle.ch_table.proofs.steps.Steps+u64.ranks_to_places.Given as goal

abbrev pub invariant-tails : goal.invariant-tails
invariant-tails l = record {
  count : length l.self.tails.items ≡ length l.initial.self.tails.items;
  found : (k : ℕ) → k < l.at → slice_index l.self.tails.items k ≡ slice_index l.places (slice_index l.initial.self.tails.items k) - 1;
  rest : (k : ℕ) → l.at ≤ k → slice_index l.self.tails.items k ≡ slice_index l.initial.self.tails.items k;
  first : l.self.first.items ≡ l.initial.self.first.items;
  lengths : l.self.lengths.items ≡ l.initial.self.lengths.items;
}
