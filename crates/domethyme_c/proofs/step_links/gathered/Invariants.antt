use Rattle.std.proofs.Common.{ℕ, ◌≡◌, ◌<◌, length, slice_index}
use Rattle.domethyme_c.proofs.step_links.gathered.Given as goal

abbrev pub invariant-links : goal.invariant-links
invariant-links l = record {
  count : length l.steps.items ≡ l.at;
  each : (i : ℕ) → i < l.at → slice_index l.links i < length l.numbers → slice_index l.steps.items i ≡ slice_index l.numbers (slice_index l.links i);
}
