use Rattle.std.proofs.Common.{◌≡◌, ◌-◌, ◌≤◌, length, take}
use Rattle.std.specs.Io.KnownBytes.{Keeps}
use Rattle.hierfile.specs.Bytes.{coming}
use Rattle.counted_io.specs.Limits.{IsRead}
use Rattle.hierfile.proofs.byte_reader.ByteReader.fill.Given as goal

abbrev pub invariant-loop-self : goal.invariant-loop-self
invariant-loop-self g l =
    let remaining = g.R.Read.remaining in
    let input = l.self-inside in
    record {
      front : input.at ≡ 0;
      within : input.end ≤ length input.buffer.items;
      size : length input.buffer.items ≡ 65536;
      keeps : Keeps (coming l.fn.self.waiting (remaining l.fn.reader)) (coming (take input.end input.buffer.items) (remaining l.reader));
      calls : IsRead g.R.StepRead.step l.fn.self.left input.calls.left l.fn.reader l.reader;
    }

abbrev pub decreases-loop-self : goal.decreases-loop-self
decreases-loop-self g l = l.fn.count - l.self-inside.end
