use Rattle.std.proofs.Common.{subst, rules, slice_index_or, Ok}
use Rattle.std.proofs.lemmas.List.{take_all}
use Rattle.ch_estimate.specs.Leases.{CountId}
use Rattle.jobs.specs.declared.orders.Order.TheVariants.{Edges}
use Rattle.std.specs.List.{AllZip}
use Rattle.performing.proofs.OneForEach.{and_next}
use Rattle.performing.proofs.lists.one_for_each.Goals as goal

pub orders-preserved : goal.orders-preserved
orders-preserved g c =
    let made = subst (λ r. goal.F-post g c.args.make.now (slice_index_or c.args.orders.now c.orders.order-index Edges) c.in_ok-lease.lease r) c.in_ok-make.was c.make.ensures in
    and_next (λ order thing. (lease : CountId) × goal.F-post g c.args.make.now order lease (Ok thing)) c.args.orders.now _ _ Edges _ (search rules) c.orders.invariant (c.in_ok-lease.lease, made) c.in_ok-push.ensures.items

pub returns : goal.returns
returns g c = subst (λ orders. AllZip (λ order thing. (lease : CountId) × goal.F-post g c.args.make.now order lease (Ok thing)) orders c.orders.list.items) (take_all c.orders.order-index c.args.orders.now (search rules)) c.orders.invariant
