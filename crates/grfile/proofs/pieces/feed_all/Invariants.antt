use Rattle.std.proofs.Common.{◌≡◌, None, min}
use Rattle.counted_io.specs.Limits.{IsRead}
use Rattle.counted_io.specs.declared.TheConstants.{MOST_CALLS}
use Rattle.grfile.specs.Taken.{HasTaken, taken_of, told_with}
use Rattle.grfile.proofs.TextInPieces.{IsWithin}
use Rattle.grfile.proofs.pieces.feed_all.Given as goal

abbrev pub invariant-loop-count : goal.invariant-loop-count
invariant-loop-count g l =
    let had = g.R.Read.remaining l.fn.reader in
    let left = g.R.Read.remaining l.reader in
    record {
      fresh : l.pieces.failed ≡ None;
      told : HasTaken (told_with (g.F.Form.grammar l.fn.form) (taken_of l.fn.pieces)) (told_with (g.F.Form.grammar l.fn.form) (taken_of l.pieces)) l.pieces.progress.line had left;
      few : IsWithin had left l.calls.left (min l.fn.calls MOST_CALLS);
      calls : IsRead g.R.StepRead.step (min l.fn.calls MOST_CALLS) l.calls.left l.fn.reader l.reader;
    }

abbrev pub decreases-loop-count : goal.decreases-loop-count
decreases-loop-count g l = l.calls.left
