use Rattle.counted_io.proofs.SinkPassesOn.{gathered}
use Rattle.counted_io.proofs.sink.Sink.put.Goals as goal

pub returns-then-bytes-self : goal.returns-then-bytes-self
returns-then-bytes-self g c = c.put_behind.ensures

pub returns : goal.returns
returns g c = gathered _ _ _ _ _ _ c.gather.ensures
