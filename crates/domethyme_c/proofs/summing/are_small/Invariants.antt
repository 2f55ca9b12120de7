use Rattle.std.proofs.Common.{ℕ, ◌<◌, ◌≤◌, ◌^◌, ◌↔◌, slice_index, IsTrue}
use Rattle.domethyme_c.proofs.summing.are_small.Given as goal

abbrev pub invariant-numbers : goal.invariant-numbers
invariant-numbers l = IsTrue l.small ↔ ((i : ℕ) → i < l.at → slice_index l.numbers i ≤ 2 ^ 36)
