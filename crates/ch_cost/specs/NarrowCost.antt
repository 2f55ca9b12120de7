-- A cost in twelve bytes: its length in two halves, and its arcs.
use Rattle.std.specs.Prelude.{ℕ, ◌≡◌, ◌+◌, ◌*◌, ◌^◌, ◌<◌, ◌/◌, ◌%◌}
use Rattle.std.proofs.Common.{arith}
use Rattle.ch_cost.specs.declared.cost.Cost.{Cost}
use Rattle.ch_cost.specs.Cost.{length_of, arcs_of, of_walk}
use Rattle.ch_cost.specs.Cost.Numbers.{length_of-of_walk, arcs_of-of_walk}
use Rattle.ch_cost.specs.declared.narrow_cost.NarrowCost.TheInside.{Inside}

-- the cost that the three numbers represent
abbrev pub cost_in : Inside → Cost
cost_in a = of_walk (a.high * 2 ^ 32 + a.low) a.few

-- each of the three fits four bytes
abbrev pub IsInside : Inside → Type 0
IsInside a = (a.low < 2 ^ 32) × (a.high < 2 ^ 32) × (a.few < 2 ^ 32)

abbrev numbers : ℕ → ℕ → ℕ → Inside
numbers low high few = record { low = low; high = high; few = few }

-- the three numbers of a cost
abbrev pub halves : Cost → Inside
halves c = record { low = length_of c % 2 ^ 32; high = length_of c / 2 ^ 32; few = arcs_of c }

same_numbers : {a b c d e f : ℕ} → a ≡ b → c ≡ d → e ≡ f → numbers a c e ≡ numbers b d f
same_numbers low high few = cc

pub same_walk : {a b c d : ℕ} → a ≡ b → c ≡ d → of_walk a c ≡ of_walk b d
same_walk length arcs = cc

pub inside_of : (a : Inside) → IsInside a → halves (cost_in a) ≡ a
inside_of a inside =
    let length : length_of (cost_in a) ≡ a.high * 2 ^ 32 + a.low = length_of-of_walk (a.high * 2 ^ 32 + a.low) a.few in
    same_numbers
    (omega (arith, length, inside.0))
    (omega (arith, length, inside.0))
    (arcs_of-of_walk (a.high * 2 ^ 32 + a.low) a.few)
