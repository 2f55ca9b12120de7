use Rattle.std.proofs.Common.{◌≡◌, take}
use Rattle.counted_io.specs.Sinks.{PutsSome}
use Rattle.ch_service.specs.Answer.{Routed}
use Rattle.ch_service.proofs.pairs.put_pairs.Given as goal

abbrev pub invariant-pairs : goal.invariant-pairs
invariant-pairs g l = record {
  same : l.router ≡ l.fn.router;
  answers : PutsSome g.W.StepWrite.step g.W.Write.contents (Routed l.fn.router (take l.pair-index l.pairs)) l.fn.sink l.sink l.fn.out l.out;
}
