use Rattle.std.proofs.Common.{◌≡◌, map, length}
use Rattle.std.specs.Prelude.{vec_len}
use Rattle.ch_workers.proofs.boxed.box_lists.Given as goal

abbrev pub invariant-lists : goal.invariant-lists
invariant-lists g l = (map (λ v. map (λ b. b.inner) v.items) l.made.items ≡ map (λ v. v.items) l.yielded) × (vec_len l.made ≡ length l.yielded)
