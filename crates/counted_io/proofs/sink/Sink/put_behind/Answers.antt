use Rattle.std.proofs.Common.{◌≡◌, List, ℕ, [], ◌++◌, take, sym, ap, ◌∙◌}
use Rattle.counted_io.specs.Sinks.{Gathered}
use Rattle.counted_io.specs.Sinks.Laws.{puts_as, puts_then}
use Rattle.counted_io.proofs.SinkPassesOn.{gathered, passed}
use Rattle.counted_io.proofs.sink.Sink.put_behind.Goals as goal

pub returns-then-bytes-gt-BUFFER : goal.returns-then-bytes-gt-BUFFER
returns-then-bytes-gt-BUFFER g c =
    let empty : take c.self.inside.end c.self.inside.buffer ≡ [] = ap (λ (x : Gathered). x.waiting) c.self.view_is ∙ c.pass_on.ensures.all in
    puts_then c.pass_on.ensures.puts (passed _ _ _ _ _ _ _ _ _ _ _ _ _ c.self.view_is empty (puts_as (ap (λ (l : List ℕ). l ++ c.args.bytes.now) (sym empty)) c.write_on.ensures))

pub returns : goal.returns
returns g c = puts_then c.pass_on.ensures.puts (gathered _ _ _ _ _ _ c.gather.ensures)
