use Rattle.std.specs.Prelude.{Ok, take}
use Rattle.ch_estimate.specs.Leases.{CountId}
use Rattle.std.specs.List.{AllZip}
use Rattle.performing.proofs.lists.one_for_each.Given as goal

abbrev pub invariant-orders : goal.invariant-orders
invariant-orders g l = AllZip (λ order thing. (lease : CountId) × goal.F-post g l.make order lease (Ok thing)) (take l.order-index l.orders) l.list.items
