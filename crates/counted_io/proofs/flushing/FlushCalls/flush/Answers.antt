use Rattle.std.proofs.Common.{arith, rules}
use Rattle.std.proofs.KnownBytes.{Keeps-refl, Keeps-trans}
use Rattle.counted_io.specs.Calls.{Waits}
use Rattle.counted_io.proofs.CallAfterCall.{not_so, wait_more, ends_by, fails_by, called_to_end, called_to_failure, called_to_wait}
use Rattle.counted_io.proofs.flushing.FlushCalls.flush.Goals as goal

pub calls-init : goal.calls-init
calls-init g c = record { bytes = Keeps-refl _; waits = (0, omega arith, Waits.no_call) }

pub calls-preserved : goal.calls-preserved
calls-preserved g c = record {
  bytes = Keeps-trans _ _ _ c.calls.invariant.bytes c.in-Err.ensures.bytes;
  waits = wait_more _ _ _ _ _ _ c.calls-test.true c.calls.invariant.waits c.in-Err.error c.in-Err.ensures.step (c.is_interrupted.ensures.0 c.if-is_interrupted.true);
}

pub returns-in-Ok-clause-flushed : goal.returns-in-Ok-clause-flushed
returns-in-Ok-clause-flushed g c = ends_by _ _ _ _ _ _ c.calls-test.true c.calls.invariant.waits _ c.in-Ok.ensures.step

pub returns-in-Err-2-clause-failed : goal.returns-in-Err-2-clause-failed
returns-in-Err-2-clause-failed g c =
    let failed = fails_by _ _ _ _ _ _ c.calls-test.true c.calls.invariant.waits c.in-Err.error c.in-Err.ensures.step (not_so _ c.is_interrupted.ensures.1 c.if-is_interrupted.false) in
    search rules

pub returns-in-Ok-clause-calls : goal.returns-in-Ok-clause-calls
returns-in-Ok-clause-calls g c = called_to_end _ _ _ (returns-in-Ok-clause-flushed g c)

pub returns-in-Err-2-clause-calls : goal.returns-in-Err-2-clause-calls
returns-in-Err-2-clause-calls g c =
    called_to_failure _ _ _ (fails_by _ _ _ _ _ _ c.calls-test.true c.calls.invariant.waits c.in-Err.error c.in-Err.ensures.step (not_so _ c.is_interrupted.ensures.1 c.if-is_interrupted.false))

pub returns-after-calls-clause-calls : goal.returns-after-calls-clause-calls
returns-after-calls-clause-calls g c = called_to_wait _ _ _ c.calls.invariant.waits
