-- Middles: a node or none, and the number of four bytes that represents each.
use Rattle.std.specs.Prelude.{ℕ, ◌≡◌, ◌-◌, ◌^◌, ◌==◌, Option, Some, None, Bool, refl, if◌then◌else◌}
use Rattle.std.specs.Bool.{Decides}
use Rattle.std.specs.Cmp.{IsEquivalence, IsPartialEquivalence, decided, unsigned_Decides, partial_equiv_from_equiv}
use Rattle.std.specs.Option.{option_eq}
use Rattle.std.proofs.Common.{arith, ap}
use Rattle.std.proofs.lemmas.Bool.Decides.{nat_tests}
use Rattle.ch_graph.specs.declared.middle.Middle.TheInside.{Inside}

-- none is represented by the greatest of four bytes, and a node by its own number
abbrev pub number_of : Option ℕ → ℕ
number_of None = 2 ^ 32 - 1
number_of (Some node) = node

abbrev pub node_in : ℕ → Option ℕ
node_in number = if number == 2 ^ 32 - 1 then None else Some number

number-node_in : (n : ℕ) → number_of (node_in n) ≡ n
number-node_in n = grind (arith, nat_tests)

pub inside_of : (m : Inside) → record { number = number_of (node_in m.number) } ≡ m
inside_of m = ap (λ (n : ℕ). record { number = n }) (number-node_in m.number)

abbrev pub same_middles : Option ℕ → Option ℕ → Bool
same_middles a b = option_eq (λ x y. x == y) a b

-- what it returns
pub same_middles-Decides : (a b : Option ℕ) → Decides (same_middles a b) (a ≡ b)
same_middles-Decides None None = (λ _. refl, λ _. refl)
same_middles-Decides None (Some y) = (λ e. absurd (cc), λ e. absurd (cc))
same_middles-Decides (Some x) None = (λ e. absurd (cc), λ e. absurd (cc))
same_middles-Decides (Some x) (Some y) = (λ e. ap Some ((unsigned_Decides x y).0 e), λ e. let same : x ≡ y = cc in (unsigned_Decides x y).1 same)

pub same_middles-laws : IsEquivalence same_middles
same_middles-laws = decided same_middles same_middles-Decides

pub same_middles-partial : IsPartialEquivalence same_middles
same_middles-partial = partial_equiv_from_equiv same_middles-laws
