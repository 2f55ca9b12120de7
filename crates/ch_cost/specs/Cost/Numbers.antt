-- Costs by their two numbers, for what writes costs down and reads them back.
use Rattle.std.specs.Prelude.{ℕ, ◌≡◌, ◌*◌, ◌^◌, ◌≤◌, refl}
use Rattle.std.proofs.Common.{arith}
use Rattle.ch_cost.specs.declared.cost.Cost.{Cost}
use Rattle.ch_cost.specs.Cost.{cost_of_arcs, of_walk, length_of, arcs_of, IsWithin, IsNoLonger, IsInLimit, IsSummable, IsOfWalks}

pub length_of-of_walk : (n m : ℕ) → length_of (of_walk n m) ≡ n
unfolding length_of of_walk
length_of-of_walk n m = refl

pub arcs_of-of_walk : (n m : ℕ) → arcs_of (of_walk n m) ≡ m
unfolding arcs_of of_walk
arcs_of-of_walk n m = refl

pub of_walk-numbers : (c : Cost) → of_walk (length_of c) (arcs_of c) ≡ c
unfolding length_of arcs_of of_walk
of_walk-numbers c = refl

pub length_of-cost_of_arcs : (count heaviest : ℕ) → length_of (cost_of_arcs count heaviest) ≡ count * heaviest
unfolding length_of cost_of_arcs
length_of-cost_of_arcs count heaviest = refl

pub arcs_of-cost_of_arcs : (count heaviest : ℕ) → arcs_of (cost_of_arcs count heaviest) ≡ count
unfolding arcs_of cost_of_arcs
arcs_of-cost_of_arcs count heaviest = refl

pub within-from_numbers : (c bound : Cost) → length_of c ≤ length_of bound → arcs_of c ≤ arcs_of bound → IsWithin c bound
unfolding length_of arcs_of
within-from_numbers c bound h k = record { weight = h; arcs = k }

pub lengths-from_within : (c bound : Cost) → IsWithin c bound → length_of c ≤ length_of bound
unfolding length_of
lengths-from_within c bound h = h.weight

pub arcs-from_within : (c bound : Cost) → IsWithin c bound → arcs_of c ≤ arcs_of bound
unfolding arcs_of
arcs-from_within c bound h = h.arcs

pub no_longer-from_lengths : (c bound : Cost) → length_of c ≤ length_of bound → IsNoLonger c bound
unfolding length_of
no_longer-from_lengths c bound h = record { weight = h }

pub lengths-from_no_longer : (c bound : Cost) → IsNoLonger c bound → length_of c ≤ length_of bound
unfolding length_of
lengths-from_no_longer c bound h = h.weight

pub lengths-in_limit : (c : Cost) → IsInLimit c → length_of c ≤ 2 ^ 57
unfolding length_of
lengths-in_limit c h = h.weight

pub arcs-in_limit : (c : Cost) → IsInLimit c → arcs_of c ≤ 2 ^ 57
unfolding arcs_of
arcs-in_limit c h = h.arcs

pub summable-from_numbers : (c : Cost) → length_of c ≤ 2 ^ 62 → arcs_of c ≤ 2 ^ 62 → IsSummable c
unfolding length_of arcs_of
summable-from_numbers c h k = record { weight = h; arcs = k }

pub of_walks-from_arcs : (c : Cost) → arcs_of c ≤ 2 ^ 25 → IsOfWalks 1 c
unfolding arcs_of
of_walks-from_arcs c h = record { arcs = omega (arith, h) }
