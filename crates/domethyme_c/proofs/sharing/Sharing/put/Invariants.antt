use Rattle.std.proofs.Common.{◌≡◌}
use Rattle.domethyme_c.proofs.sharing.Sharing.put.Given as goal

abbrev pub invariant-tries : goal.invariant-tries
invariant-tries l = record {
  self : l.self ≡ l.fn.self;
  router : l.router ≡ l.fn.router;
  shared : l.shared ≡ l.fn.router;
}
