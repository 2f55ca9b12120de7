use Rattle.std.proofs.Common.{◌≡◌, length}
use Rattle.std.specs.Prelude.{vec_len}
use Rattle.ch_workers.proofs.listeners.listeners_of.Given as goal

abbrev pub invariant-lists : goal.invariant-lists
invariant-lists g l = vec_len l.made ≡ length l.yielded
