-- What walks cost: the sums of costs and their order. A cost is a pair: the sum of the weights, and the number of arcs.
-- These definitions are closed: other crates know of costs what `Cost.Laws` and `Cost.Numbers` say, and nothing else.
use Rattle.std.specs.Prelude.{ℕ, ◌≡◌, ◌+◌, ◌*◌, ◌^◌, ◌<◌, ◌≤◌, Bool, ◌==◌, ◌&&◌}
use Rattle.std.specs.declared.cmp.Ordering.{Ordering}
use Rattle.std.specs.Ordering.{nat_cmp, ordering_then}
use Rattle.ch_cost.specs.declared.cost.Cost.{Cost}
pub mod Fields
pub mod Laws
pub mod Numbers

infixl 65 ◌⊕◌
infix 45 ◌≼◌
infix 45 ◌≺◌
-- the cost of no arc
pub zero_cost : Cost
zero_cost = record { weight = 0; arcs = 0 }

-- the cost of two walks, one after the other
pub ◌⊕◌ : Cost → Cost → Cost
a ⊕ b = record { weight = a.weight + b.weight; arcs = a.arcs + b.arcs }

-- the cost of one arc of this weight
pub of_weight : ℕ → Cost
of_weight w = record { weight = w; arcs = 1 }

-- the most that this many arcs of at most this weight cost
pub cost_of_arcs : ℕ → ℕ → Cost
cost_of_arcs count heaviest = record { weight = count * heaviest; arcs = count }

-- the sum of the weights
pub length_of : Cost → ℕ
length_of c = c.weight

-- the number of arcs
pub arcs_of : Cost → ℕ
arcs_of c = c.arcs

-- the cost of a walk of this length and this many arcs
pub of_walk : ℕ → ℕ → Cost
of_walk length arcs = record { weight = length; arcs = arcs }

-- a weight that an arc may have
pub record IsWeight (w : ℕ) : Type 0 where
  fits : w < 2 ^ 32

-- at most: by the weights, and where these are equal by the arcs
pub record ◌≼◌ (a b : Cost) : Type 0 where
  weight : a.weight ≤ b.weight
  arcs : a.weight ≡ b.weight → a.arcs ≤ b.arcs

-- below, likewise
pub record ◌≺◌ (a b : Cost) : Type 0 where
  weight : a.weight ≤ b.weight
  arcs : a.weight ≡ b.weight → a.arcs < b.arcs

-- the order as a comparison, and the test for equality
pub compare : Cost → Cost → Ordering
compare a b = ordering_then (nat_cmp a.weight b.weight) (nat_cmp a.arcs b.arcs)

pub same : Cost → Cost → Bool
same a b = (a.weight == b.weight) && (a.arcs == b.arcs)

-- each number of the cost fits 64 bits
pub record FitsWords (c : Cost) : Type 0 where
  weight : c.weight < 2 ^ 64
  arcs : c.arcs < 2 ^ 64

-- each number of the cost is at most the bound's; what isn't within the bound is heavy
pub record IsWithin (c bound : Cost) : Type 0 where
  weight : c.weight ≤ bound.weight
  arcs : c.arcs ≤ bound.arcs

-- the length is at most the bound's
pub record IsNoLonger (c bound : Cost) : Type 0 where
  weight : c.weight ≤ bound.weight

-- small enough to be a summand
pub record IsInLimit (c : Cost) : Type 0 where
  weight : c.weight ≤ 2 ^ 57
  arcs : c.arcs ≤ 2 ^ 57

-- small enough that the sum of two fits 64 bits, and is compared and added to once more
pub record IsSummable (c : Cost) : Type 0 where
  weight : c.weight ≤ 2 ^ 62
  arcs : c.arcs ≤ 2 ^ 62

-- at most what this many arcs can cost
pub record IsOfArcs (count : ℕ) (c : Cost) : Type 0 where
  weight : c.weight ≤ count * 2 ^ 32
  arcs : c.arcs ≤ count

-- At most as many arcs as this many walks have together that have fewer than 2^25 arcs each. A cost that is no longer
-- than a bound and of not too many walks is small enough to be a summand.
pub record IsOfWalks (count : ℕ) (c : Cost) : Type 0 where
  arcs : c.arcs ≤ count * 2 ^ 25
