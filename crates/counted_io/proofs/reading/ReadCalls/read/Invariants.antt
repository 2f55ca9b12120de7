use Rattle.std.proofs.Common.{ℕ, ◌≡◌, ◌+◌}
use Rattle.std.specs.Io.KnownBytes.{Keeps}
use Rattle.counted_io.specs.Calls.{Waits}
use Rattle.counted_io.proofs.reading.ReadCalls.read.Given as goal

abbrev pub invariant-loop-self : goal.invariant-loop-self
invariant-loop-self g l = record {
  keeps : Keeps (g.R.Read.remaining l.fn.reader) (g.R.Read.remaining l.reader);
  waits : (calls : ℕ) × (l.fn.self.left ≡ l.self.left + calls) × Waits g.R.StepRead.step calls l.fn.reader l.reader;
}

abbrev pub decreases-loop-self : goal.decreases-loop-self
decreases-loop-self g l = l.self.left
