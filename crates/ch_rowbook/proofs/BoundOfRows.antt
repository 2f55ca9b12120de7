-- The bound of the rows of a list.
use Rattle.std.specs.Prelude.{ℕ, ◌≡◌, List}
use Rattle.std.proofs.Common.{◌∙◌, ap}
use Rattle.ch_cost.specs.declared.cost.Cost.{Cost}
use Rattle.ch_cost.specs.Cost.Numbers.{of_walk-numbers}
use Rattle.ch_overlay.specs.Records.{mark_of, marked}

-- the bound of a mark
pub marked_is : (mark : List ℕ) (own bound : Cost) → mark ≡ mark_of own → own ≡ bound → marked mark ≡ bound
marked_is mark own bound is same = ap (λ (m : List ℕ). marked m) is ∙ of_walk-numbers own ∙ same
