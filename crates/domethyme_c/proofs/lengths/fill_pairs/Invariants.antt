use Rattle.std.proofs.Common.{◌≡◌, ◌/◌, ◌%◌, length, slice_index}
use Rattle.domethyme_c.specs.Answers.{AreWritten, IsLengthOrNone}
use Rattle.domethyme_c.proofs.lengths.fill_pairs.Given as goal

abbrev pub invariant-places : goal.invariant-places
invariant-places l =
    (l.engine ≡ l.fn.engine) × AreWritten l.place (λ k n. IsLengthOrNone l.fn.engine (slice_index l.fn.sources (k / length l.fn.targets)) (slice_index l.fn.targets (k % length l.fn.targets)) n) l.fn.lengths l.lengths
