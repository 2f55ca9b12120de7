use Rattle.counted_io.proofs.SinkPassesOn.{kept}
use Rattle.counted_io.proofs.sink.write_on.Goals as goal

pub returns-then-is_none : goal.returns-then-is_none
returns-then-is_none g c =
    let call = c.write.ensures in
    rw (c.err.ensures.value) (kept g.W.StepWrite.step g.W.Write.contents c.args.fault.now c.write.result c.if-is_none.ensures call.ok call.taken call.err call.stopped)
