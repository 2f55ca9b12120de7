-- The orders by which a worker goes, and how long by each.
use Rattle.std.specs.Prelude.{ℕ, ◌^◌, Bool, true, false, List, [], ◌∷◌, Option, Some, None, codes}
use Rattle.jobs.specs.declared.orders.Order.{Order}
use Rattle.jobs.specs.declared.orders.Order.TheVariants.{Edges, Neighbours, Depth, Balanced}
use Rattle.jobs.specs.declared.stint.Stint.{Stint}

-- all orders
abbrev pub all_orders : List Order
all_orders = Edges ∷ Neighbours ∷ Depth ∷ Balanced ∷ []

-- an order's name on a command line
abbrev pub name_of : Order → List ℕ
name_of Edges = codes "edges"
name_of Neighbours = codes "neighbours"
name_of Depth = codes "depth"
name_of Balanced = codes "balanced"

-- it is one of those by which a worker goes in turn
abbrev pub takes_turns : Order → Bool
takes_turns Edges = true
takes_turns Neighbours = true
takes_turns Depth = true
takes_turns order = false

-- the others of these
abbrev pub others_of : Order → List Order
others_of Edges = Neighbours ∷ Depth ∷ []
others_of Neighbours = Edges ∷ Depth ∷ []
others_of Depth = Edges ∷ Neighbours ∷ []
others_of order = Edges ∷ Neighbours ∷ Depth ∷ []

abbrev pub alone : Order → List Order
alone order = order ∷ []

-- this one, and then the others
abbrev pub and_others : Order → List Order
and_others order = order ∷ others_of order

-- by which a worker goes, one after the other
abbrev pub orders_of : Order → Option Stint → List Order
orders_of order None = alone order
orders_of order (Some stint) = and_others order

-- how many commits it makes by each but the last
abbrev pub stint_of : Option Stint → ℕ
stint_of None = 2 ^ 40
stint_of (Some stint) = stint.commits
