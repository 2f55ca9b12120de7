-- The step before: its place or none, and the number of four bytes that represents each.
use Rattle.std.specs.Prelude.{ℕ, ◌≡◌, ◌-◌, ◌^◌, ◌==◌, Option, Some, None, if◌then◌else◌}
use Rattle.std.proofs.Common.{arith, ap}
use Rattle.std.proofs.lemmas.Bool.Decides.{nat_tests}
use Rattle.ch_witness.specs.declared.parent.Parent.TheInside.{Inside}

-- none is represented by the greatest of four bytes, and a place by its own number
abbrev pub number_of : Option ℕ → ℕ
number_of None = 2 ^ 32 - 1
number_of (Some place) = place

abbrev pub place_in : ℕ → Option ℕ
place_in number = if number == 2 ^ 32 - 1 then None else Some number

number-place_in : (n : ℕ) → number_of (place_in n) ≡ n
number-place_in n = grind (arith, nat_tests)

pub inside_of : (b : Inside) → record { number = number_of (place_in b.number) } ≡ b
inside_of b = ap (λ (n : ℕ). record { number = n }) (number-place_in b.number)
