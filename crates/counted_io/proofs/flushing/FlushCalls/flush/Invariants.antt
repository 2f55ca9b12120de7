use Rattle.std.proofs.Common.{ℕ, ◌≡◌, ◌+◌}
use Rattle.std.specs.Io.KnownBytes.{Keeps}
use Rattle.counted_io.specs.Calls.{Waits}
use Rattle.counted_io.proofs.flushing.FlushCalls.flush.Given as goal

abbrev pub invariant-calls : goal.invariant-calls
invariant-calls g l = record {
  bytes : Keeps (g.W.Write.contents l.fn.writer) (g.W.Write.contents l.writer);
  waits : (calls : ℕ) × (l.fn.self.left ≡ l.self.left + calls) × Waits g.W.StepFlush.flush_step calls l.fn.writer l.writer;
}

abbrev pub decreases-calls : goal.decreases-calls
decreases-calls g l = l.self.left
