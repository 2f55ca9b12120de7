-- The definitions of short costs by the numbers in one, for the proofs of this crate alone.
use Rattle.std.specs.Prelude.{◌≡◌, ◌-◌, ◌^◌, ◌&&◌, nat_lt, nat_le, Bool, true, false, ◌==◌, if◌then◌else◌, Some, None, refl}
use Rattle.std.proofs.Common.{ap, sym}
use Rattle.std.proofs.lemmas.Bool.{eq-eqb, ne_eqb}
use Rattle.ch_cost.specs.declared.cost.Cost.{Cost}
use Rattle.ch_cost.specs.declared.short_cost.ShortCost.{ShortCost}
use Rattle.ch_cost.specs.Cost.{length_of, arcs_of, of_walk}
use Rattle.ch_cost.specs.ShortCost.{no_short, short_of, kept_in}

pub no_short-is : record { length = 2 ^ 32 - 1; arcs = 0 } ≡ no_short
unfolding no_short
no_short-is = refl

-- the short form, by the test whether both numbers fit
pub short_by_test : (c : Cost) (fits : Bool) → (nat_lt (length_of c) (2 ^ 32 - 1) && nat_le (arcs_of c) (2 ^ 32 - 1)) ≡ fits → (if fits then record { length = length_of c; arcs = arcs_of c } else no_short) ≡ short_of c
unfolding short_of
short_by_test c fits test = ap (λ (b : Bool). if b then record { length = length_of c; arcs = arcs_of c } else no_short) (sym test)

pub short-fits : (c : Cost) → (nat_lt (length_of c) (2 ^ 32 - 1) && nat_le (arcs_of c) (2 ^ 32 - 1)) ≡ true → record { length = length_of c; arcs = arcs_of c } ≡ short_of c
short-fits c test = short_by_test c true test

pub short-none : (c : Cost) → (nat_lt (length_of c) (2 ^ 32 - 1) && nat_le (arcs_of c) (2 ^ 32 - 1)) ≡ false → no_short ≡ short_of c
short-none c test = short_by_test c false test

-- what is kept, by the test for the greatest number
by_test : (s : ShortCost) (far : Bool) → (s.length == 2 ^ 32 - 1) ≡ far → (if far then None else Some (of_walk s.length s.arcs)) ≡ kept_in s
unfolding kept_in
by_test s far test = ap (λ (b : Bool). if b then None else Some (of_walk s.length s.arcs)) (sym test)

pub kept-none : (s : ShortCost) → s.length ≡ 2 ^ 32 - 1 → None ≡ kept_in s
kept-none s far = by_test s true (eq-eqb s.length (2 ^ 32 - 1) far)

pub kept-some : (s : ShortCost) → (s.length ≡ 2 ^ 32 - 1 → ⊥) → Some (of_walk s.length s.arcs) ≡ kept_in s
kept-some s fitted = by_test s false (ne_eqb s.length (2 ^ 32 - 1) fitted)
