-- The definitions of costs by the numbers in a cost, for the proofs of this crate alone.
use Rattle.std.specs.Prelude.{ℕ, ◌≡◌, ◌+◌, ◌*◌, ◌^◌, ◌<◌, ◌≤◌, ◌==◌, ◌&&◌, refl}
use Rattle.std.specs.Ordering.{nat_cmp, ordering_then}
use Rattle.std.proofs.Common.{arith}
use Rattle.ch_cost.specs.declared.cost.Cost.{Cost}
use Rattle.ch_cost.specs.Cost.{◌⊕◌, of_weight, cost_of_arcs, of_walk, length_of, arcs_of, ◌≼◌, ◌≺◌, compare, same, FitsWords, IsWithin, IsNoLonger, IsInLimit, IsSummable}

pub sum-is : (a b : Cost) → record { weight = a.weight + b.weight; arcs = a.arcs + b.arcs } ≡ a ⊕ b
unfolding ◌⊕◌
sum-is a b = refl

pub of_weight-is : (w : ℕ) → record { weight = w; arcs = 1 } ≡ of_weight w
unfolding of_weight
of_weight-is w = refl

pub cost_of_arcs-is : (count heaviest : ℕ) → record { weight = count * heaviest; arcs = count } ≡ cost_of_arcs count heaviest
unfolding cost_of_arcs
cost_of_arcs-is count heaviest = refl

pub of_walk-is : (length arcs : ℕ) → record { weight = length; arcs = arcs } ≡ of_walk length arcs
unfolding of_walk
of_walk-is length arcs = refl

pub length_of-is : (c : Cost) → c.weight ≡ length_of c
unfolding length_of
length_of-is c = refl

pub arcs_of-is : (c : Cost) → c.arcs ≡ arcs_of c
unfolding arcs_of
arcs_of-is c = refl

pub compare-is : (a b : Cost) → ordering_then (nat_cmp a.weight b.weight) (nat_cmp a.arcs b.arcs) ≡ compare a b
unfolding compare
compare-is a b = refl

pub same-is : (a b : Cost) → ((a.weight == b.weight) && (a.arcs == b.arcs)) ≡ same a b
unfolding same
same-is a b = refl

-- the facts of costs, from the numbers and to them

pub at_most-from_fields : (a b : Cost) → a.weight ≤ b.weight → (a.weight ≡ b.weight → a.arcs ≤ b.arcs) → a ≼ b
at_most-from_fields a b h k = record { weight = h; arcs = k }

pub fields-from_at_most : (a b : Cost) → a ≼ b → (a.weight ≤ b.weight) × (a.weight ≡ b.weight → a.arcs ≤ b.arcs)
fields-from_at_most a b h = (h.weight, h.arcs)

pub below-from_fields : (a b : Cost) → a.weight ≤ b.weight → (a.weight ≡ b.weight → a.arcs < b.arcs) → a ≺ b
below-from_fields a b h k = record { weight = h; arcs = k }

pub fields-from_below : (a b : Cost) → a ≺ b → (a.weight ≤ b.weight) × (a.weight ≡ b.weight → a.arcs < b.arcs)
fields-from_below a b h = (h.weight, h.arcs)

pub within-from_fields : (c bound : Cost) → c.weight ≤ bound.weight → c.arcs ≤ bound.arcs → IsWithin c bound
within-from_fields c bound h k = record { weight = h; arcs = k }

pub fields-from_within : (c bound : Cost) → IsWithin c bound → (c.weight ≤ bound.weight) × (c.arcs ≤ bound.arcs)
fields-from_within c bound h = (h.weight, h.arcs)

pub no_longer-from_fields : (c bound : Cost) → length_of c ≤ length_of bound → IsNoLonger c bound
unfolding length_of
no_longer-from_fields c bound h = record { weight = h }

pub fields-from_no_longer : (c bound : Cost) → IsNoLonger c bound → length_of c ≤ length_of bound
unfolding length_of
fields-from_no_longer c bound h = h.weight

pub in_limit-from_fields : (c : Cost) → c.weight ≤ 2 ^ 57 → c.arcs ≤ 2 ^ 57 → IsInLimit c
in_limit-from_fields c h k = record { weight = h; arcs = k }

pub fields-from_in_limit : (c : Cost) → IsInLimit c → (c.weight ≤ 2 ^ 57) × (c.arcs ≤ 2 ^ 57)
fields-from_in_limit c h = (h.weight, h.arcs)

pub fields-from_summable : (c : Cost) → IsSummable c → (c.weight ≤ 2 ^ 62) × (c.arcs ≤ 2 ^ 62)
fields-from_summable c h = (h.weight, h.arcs)

-- a sum fits where both of its numbers do
pub sum-from_fields : (a b : Cost) → a.weight + b.weight < 2 ^ 64 → a.arcs + b.arcs < 2 ^ 64 → FitsWords (a ⊕ b)
unfolding ◌⊕◌
sum-from_fields a b h k = record { weight = h; arcs = k }

pub fields-from_sum : (a b : Cost) → FitsWords (a ⊕ b) → (a.weight + b.weight < 2 ^ 64) × (a.arcs + b.arcs < 2 ^ 64)
unfolding ◌⊕◌
fields-from_sum a b h = (h.weight, h.arcs)

-- what is within a bound that is written in 64 bits fits them
pub fits-from_within : (c bound : Cost) → bound.weight < 2 ^ 64 → bound.arcs < 2 ^ 64 → IsWithin c bound → FitsWords c
fits-from_within c bound h k w = record { weight = omega (arith, h, w.weight); arcs = omega (arith, k, w.arcs) }
