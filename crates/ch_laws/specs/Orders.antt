-- Laws of the order of contraction, and of runs.
use Rattle.std.specs.Prelude.{ℕ, List, [], ◌∷◌, ◌++◌}
use Rattle.std.proofs.Common.{arith, inl, inr}
use Rattle.std.proofs.lemmas.Bool.{cases_lt}
use Rattle.ch_cost.specs.declared.cost.Cost.{Cost}
use Rattle.ch_laws.specs.Contraction.{State, Before, Contraction, Step, Run, Run.rest, Run.next}

-- two nodes don't both come before each other
pub before_not_both : {order : List ℕ} {x y : ℕ} → Before order x y → Before order y x → ⊥
before_not_both first second = elim (cases_lt second.place first.place) [
  | inl less ↦ first.not_yet second.place (omega (arith, less)) second.here
  | inr at_most ↦ second.not_yet first.place at_most first.here
]

-- a run and one more step
pub run_push : {bound : Cost} {old mid new : State} {e : Contraction} {log : List Contraction} → Run bound old log mid → Step bound mid e new → Run bound old (log ++ e ∷ []) new
run_push rest step = next step rest
run_push (next first more) step = next first (run_push more step)
