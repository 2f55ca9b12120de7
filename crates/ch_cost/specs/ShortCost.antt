-- A cost in half its memory.
-- These definitions are closed: other crates know of short costs what `kept` and `kept_not` of `ShortCost.Laws` say, and
-- nothing else.
use Rattle.std.specs.Prelude.{◌-◌, ◌^◌, ◌&&◌, nat_lt, nat_le, ◌==◌, if◌then◌else◌, Option, Some, None}
use Rattle.ch_cost.specs.declared.cost.Cost.{Cost}
use Rattle.ch_cost.specs.declared.short_cost.ShortCost.{ShortCost}
use Rattle.ch_cost.specs.Cost.{length_of, arcs_of, of_walk}
pub mod Fields
pub mod Laws

-- the short form that keeps no cost
pub no_short : ShortCost
no_short = record { length = 2 ^ 32 - 1; arcs = 0 }

-- the short form of a cost, which keeps none where a number doesn't fit
pub short_of : Cost → ShortCost
short_of c = if nat_lt (length_of c) (2 ^ 32 - 1) && nat_le (arcs_of c) (2 ^ 32 - 1) then record { length = length_of c; arcs = arcs_of c } else no_short

-- the cost that a short one keeps, if it fitted
pub kept_in : ShortCost → Option Cost
kept_in s = if s.length == 2 ^ 32 - 1 then None else Some (of_walk s.length s.arcs)
