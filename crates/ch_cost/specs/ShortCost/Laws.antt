-- The laws of short costs: all that other crates use of them.
use Rattle.std.specs.Prelude.{◌≡◌, ◌-◌, ◌^◌, ◌<◌, ◌&&◌, nat_lt, nat_le, Bool, true, false, Some, None, refl}
use Rattle.std.specs.Cmp.{first_so}
use Rattle.std.proofs.Common.{ap, sym, ◌∙◌, arith, ltb-true}
use Rattle.std.proofs.lemmas.Option.{none-some, same_Some}
use Rattle.ch_cost.specs.declared.cost.Cost.{Cost}
use Rattle.ch_cost.specs.declared.short_cost.ShortCost.{ShortCost}
use Rattle.ch_cost.specs.Cost.{length_of, arcs_of, of_walk}
use Rattle.ch_cost.specs.Cost.Numbers.{of_walk-numbers}
use Rattle.ch_cost.specs.ShortCost.{no_short, short_of, kept_in}
use Rattle.ch_cost.specs.ShortCost.Fields.{no_short-is, short-fits, short-none, kept-none, kept-some}

-- the short form of no cost yields none
pub kept_not : kept_in no_short ≡ None
kept_not = sym (kept-none no_short (ap (λ (t : ShortCost). t.length) (sym no_short-is)))

-- a cost that fits is kept, and one that doesn't yields none
read_back : (c d : Cost) (fits : Bool) → (nat_lt (length_of c) (2 ^ 32 - 1) && nat_le (arcs_of c) (2 ^ 32 - 1)) ≡ fits → kept_in (short_of c) ≡ Some d → d ≡ c
read_back c d true test is =
    let low : length_of c < 2 ^ 32 - 1 = ltb-true (length_of c) (2 ^ 32 - 1) (first_so _ _ test) in
    let whole : Some (of_walk (length_of c) (arcs_of c)) ≡ Some d = kept-some (record { length = length_of c; arcs = arcs_of c }) (λ e. omega (arith, low, e)) ∙ (ap kept_in (short-fits c test) ∙ is) in
    sym (same_Some (of_walk (length_of c) (arcs_of c)) d whole) ∙ of_walk-numbers c
read_back c d false test is = absurd (none-some d (sym kept_not ∙ (ap kept_in (short-none c test) ∙ is)))

-- what it yields is the cost that it was made of
pub kept : (c d : Cost) → kept_in (short_of c) ≡ Some d → d ≡ c
kept c d is = read_back c d (nat_lt (length_of c) (2 ^ 32 - 1) && nat_le (arcs_of c) (2 ^ 32 - 1)) refl is
