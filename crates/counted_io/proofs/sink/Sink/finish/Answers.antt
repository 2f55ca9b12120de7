use Rattle.std.proofs.Common.{rules}
use Rattle.counted_io.proofs.sink.Sink.finish.Goals as goal

pub returns : goal.returns
returns g c = search rules
