use Rattle.std.proofs.Common.{◌≡◌, slice_index_or}
use Rattle.domethyme_c.specs.Answers.{AreWritten, IsLengthOrNone}
use Rattle.domethyme_c.specs.declared.lengths.Pair.{Pair}
use Rattle.domethyme_c.proofs.lengths.answer_pairs.Given as goal

abbrev pub invariant-pairs : goal.invariant-pairs
invariant-pairs l =
    (l.engine ≡ l.fn.engine) × AreWritten l.place (λ k n. (d : Pair) → IsLengthOrNone l.fn.engine (slice_index_or l.fn.pairs k d).from (slice_index_or l.fn.pairs k d).to n) l.fn.lengths l.lengths
