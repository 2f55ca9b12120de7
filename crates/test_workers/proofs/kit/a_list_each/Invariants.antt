use Rattle.std.proofs.Common.{All}
use Rattle.std.specs.Prelude.{Ok}
use Rattle.ch_estimate.specs.Leases.{CountId}
use Rattle.test_workers.proofs.kit.a_list_each.Given as goal

abbrev pub invariant-lists : goal.invariant-lists
invariant-lists g l = All (λ list. All (λ thing. (lease : CountId) × goal.F-post g l.make lease (Ok thing)) list.items) l.lists.items
