-- Sums of two labels, of which a query looks for the least, and the costs that count below it.
use Rattle.std.specs.Prelude.{ℕ, ◌≡◌, Option, Some}
use Rattle.ch_cost.specs.declared.cost.Cost.{Cost}
use Rattle.ch_cost.specs.Cost.{◌⊕◌, ◌≺◌, IsNoLonger}
use Rattle.ch_graph.specs.Walk.{IsLeastOrNone}

-- two labels cost c together, and the length of c is at most the bound
pub record AreShort (bound : Cost) (up down : Option Cost) (c : Cost) : Type 0 where
  pub rise : Cost
  pub fall : Cost
  pub risen : up ≡ Some rise
  pub fallen : down ≡ Some fall
  pub sum : c ≡ rise ⊕ fall
  pub short : IsNoLonger c bound

-- the two labels of a node do so
abbrev pub Meets : Cost → (ℕ → Option Cost) → (ℕ → Option Cost) → ℕ → Cost → Type 0
Meets bound up down x c = AreShort bound (up x) (down x) c

-- the least sum of two labels, or none where no node has two
abbrev pub IsBest : Cost → (ℕ → Option Cost) → (ℕ → Option Cost) → Option Cost → Type 0
IsBest bound up down = IsLeastOrNone (λ (c : Cost). (x : ℕ) × Meets bound up down x c)

-- a limit, where there is one, is within the bound
abbrev pub IsShortLimit : Cost → Option Cost → Type 0
IsShortLimit bound limit = (b : Cost) → limit ≡ Some b → IsNoLonger b bound

-- a cost counts where its length is within the bound, and it is below the best sum
pub record CountsBelow (bound : Cost) (best : Option Cost) (c : Cost) : Type 0 where
  pub short : IsNoLonger c bound
  pub below : (b : Cost) → best ≡ Some b → c ≺ b
