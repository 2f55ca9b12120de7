use Rattle.std.proofs.Common.{◌≢◌, ℕ, ◌<◌, slice_index_or}
use Rattle.jobs.specs.declared.orders.Order.TheVariants.{Edges}
use Rattle.jobs.specs.Orders.{name_of}
use Rattle.jobs.proofs.orders.Order.named.Given as goal

-- the orders so far have other names
abbrev pub invariant-orders : goal.invariant-orders
invariant-orders l = (k : ℕ) → k < l.order-index → name_of (slice_index_or l.order-items k Edges) ≢ l.name
