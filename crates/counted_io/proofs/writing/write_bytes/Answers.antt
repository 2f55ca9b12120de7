use Rattle.std.proofs.Common.{arith, inr}
use Rattle.std.proofs.KnownBytes.{Appends-nil}
use Rattle.counted_io.specs.Calls.{Takings}
use Rattle.counted_io.proofs.FirstBytesTaken.{appends-take_more}
use Rattle.counted_io.proofs.CallAfterCall.{take_more, stop_by}
use Rattle.counted_io.proofs.writing.write_bytes.Goals as goal

pub loop-taken-init : goal.loop-taken-init
loop-taken-init g c = record { within = omega arith; given = Appends-nil _; counted = omega arith; takes = (0, omega arith, Takings.no_call) }

pub loop-taken-preserved : goal.loop-taken-preserved
loop-taken-preserved g c = record {
  within = omega (arith, c.in-Some.ensures.bytes);
  given = appends-take_more _ _ _ c.loop-taken.taken c.in-Some.more c.args.bytes.now c.loop-taken.invariant.given c.in-Some.ensures.bytes.2;
  counted = omega (arith, c.in-Some.ensures.bytes);
  takes = take_more _ _ _ _ _ _ _ c.if-left-gt0.true c.loop-taken.invariant.takes _ c.in-Some.ensures.step;
}

pub returns-else-left-gt0-clause-part : goal.returns-else-left-gt0-clause-part
returns-else-left-gt0-clause-part g c _ = let takes = c.loop-taken.invariant.takes in (takes.0, takes.1, inr (omega arith, takes.2))

pub returns-after-loop-taken-clause-all : goal.returns-after-loop-taken-clause-all
returns-after-loop-taken-clause-all g c _ = c.loop-taken.invariant.takes

pub returns-in_default-clause-part : goal.returns-in_default-clause-part
returns-in_default-clause-part g c _ =
    let last = c.in_default.ensures.step in
    stop_by _ _ _ _ _ _ _ c.if-left-gt0.true c.loop-taken.invariant.takes last.0 last.1 last.2
