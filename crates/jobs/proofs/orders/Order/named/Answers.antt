use Rattle.std.proofs.Common.{rules, ◌≢◌, below_more, slice_index_or}
use Rattle.jobs.specs.Orders.{name_of, all_orders}
use Rattle.jobs.specs.declared.orders.Order.TheVariants.{Edges}
use Rattle.jobs.proofs.orders.Order.named.Goals as goal

pub orders-preserved : goal.orders-preserved
orders-preserved c = below_more (λ k. name_of (slice_index_or all_orders k Edges) ≢ c.args.name.now) c.orders.order-index c.orders.invariant (search rules)
