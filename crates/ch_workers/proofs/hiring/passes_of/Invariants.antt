use Rattle.std.proofs.Common.{◌≡◌}
use Rattle.std.specs.Prelude.{vec_len}
use Rattle.ch_workers.proofs.hiring.passes_of.Given as goal

abbrev pub invariant-passes : goal.invariant-passes
invariant-passes l = (l.queue ≡ record l.initial.queue { passes = l.counter }) × (vec_len l.passes ≡ l.counter)
