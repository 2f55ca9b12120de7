use Rattle.std.proofs.Common.{arith}
use Rattle.test_kit.proofs.RisingEntries.{rises_more}
use Rattle.test_kit.proofs.rows.rises.Goals as goal

pub loop-place-preserved : goal.loop-place-preserved
loop-place-preserved c = record {
  begun = omega arith;
  rising = rises_more c.args.entries.now c.loop-place.place _ _ c.loop-place.invariant.begun (omega (arith, c.loop-place-test.true)) (c.if-entries-place.false) c.loop-place.invariant.rising;
}
