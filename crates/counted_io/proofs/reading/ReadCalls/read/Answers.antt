use Rattle.std.proofs.Common.{arith}
use Rattle.std.proofs.KnownBytes.{Keeps-refl, Keeps-trans}
use Rattle.counted_io.specs.Calls.{Waits}
use Rattle.counted_io.proofs.CallAfterCall.{not_so, wait_more, ends_by, fails_by, called_to_end, called_to_failure, called_to_wait}
use Rattle.counted_io.proofs.reading.ReadCalls.read.Goals as goal

pub loop-self-init : goal.loop-self-init
loop-self-init g c = record { keeps = Keeps-refl _; waits = (0, omega arith, Waits.no_call) }

pub loop-self-preserved : goal.loop-self-preserved
loop-self-preserved g c = record {
  keeps = Keeps-trans _ _ _ c.loop-self.invariant.keeps c.in-Err.ensures.bytes;
  waits = wait_more _ _ _ _ _ _ c.loop-self-test.true c.loop-self.invariant.waits c.in-Err.error c.in-Err.ensures.step (c.is_interrupted.ensures.0 c.if-is_interrupted.true);
}

pub returns-in-Ok-clause-given : goal.returns-in-Ok-clause-given
returns-in-Ok-clause-given g c = ends_by _ _ _ _ _ _ c.loop-self-test.true c.loop-self.invariant.waits _ c.in-Ok.ensures.step

pub returns-in-Err-2-clause-failed : goal.returns-in-Err-2-clause-failed
returns-in-Err-2-clause-failed g c =
    fails_by _ _ _ _ _ _ c.loop-self-test.true c.loop-self.invariant.waits c.in-Err.error c.in-Err.ensures.step (not_so _ c.is_interrupted.ensures.1 c.if-is_interrupted.false)

pub returns-in-Ok-clause-calls : goal.returns-in-Ok-clause-calls
returns-in-Ok-clause-calls g c = called_to_end _ _ _ (returns-in-Ok-clause-given g c)

pub returns-in-Err-2-clause-calls : goal.returns-in-Err-2-clause-calls
returns-in-Err-2-clause-calls g c = called_to_failure _ _ _ (returns-in-Err-2-clause-failed g c)

pub returns-after-loop-self-clause-calls : goal.returns-after-loop-self-clause-calls
returns-after-loop-self-clause-calls g c = called_to_wait _ _ _ c.loop-self.invariant.waits
