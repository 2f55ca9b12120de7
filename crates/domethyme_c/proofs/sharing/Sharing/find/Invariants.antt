use Rattle.std.proofs.Common.{◌≡◌}
use Rattle.std.specs.Arc.{arc_value}
use Rattle.crossbeam_queue.specs.Passes.{IsPassOf, view}
use Rattle.domethyme_c.proofs.sharing.Sharing.find.Given as goal

abbrev pub invariant-tries : goal.invariant-tries
invariant-tries l = record {
  same : view l.self-inside.pass ≡ l.fn.self;
  of : IsPassOf (arc_value l.self-inside.shelf) l.self-inside.pass;
}
