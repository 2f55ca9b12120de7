use Rattle.std.proofs.Common.{ℕ, ◌≡◌, ◌+◌, ◌*◌, ◌≤◌, length, take}
use Rattle.std.specs.Io.KnownBytes.{Appends}
use Rattle.counted_io.specs.Calls.{Takings}
use Rattle.counted_io.specs.declared.TheConstants.{PIECE}
use Rattle.counted_io.proofs.writing.write_bytes.Given as goal

abbrev pub invariant-loop-taken : goal.invariant-loop-taken
invariant-loop-taken g l =
    let contents = g.W.Write.contents in
    record {
      within : l.taken ≤ length l.bytes;
      given : Appends (contents l.fn.writer) (contents l.writer) (take l.taken l.bytes);
      counted : l.taken + l.left * PIECE ≤ l.fn.left * PIECE;
      takes : (calls : ℕ) × (l.fn.left ≡ l.left + calls) × Takings g.W.StepWrite.step calls l.taken l.fn.writer l.writer;
    }

abbrev pub decreases-loop-taken : goal.decreases-loop-taken
decreases-loop-taken g l = l.left
