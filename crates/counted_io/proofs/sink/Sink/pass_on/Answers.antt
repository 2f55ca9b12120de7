use Rattle.std.proofs.Common.{refl, sym, append-nil}
use Rattle.counted_io.specs.Sinks.Laws.{puts_as}
use Rattle.counted_io.proofs.SinkPassesOn.{passed}
use Rattle.counted_io.proofs.sink.Sink.pass_on.Goals as goal

pub returns-clause-puts : goal.returns-clause-puts
returns-clause-puts g c = passed _ _ _ _ _ _ _ _ _ _ _ _ _ c.self.view_is refl (puts_as (sym (append-nil _)) c.write_on.ensures)
