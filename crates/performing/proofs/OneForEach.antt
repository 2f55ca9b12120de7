-- Lists of one thing for each order.
use Rattle.std.proofs.Common.{ℕ, ◌≡◌, ◌<◌, ◌+◌, ◌∷◌, ◌++◌, List, [], All, length, subst, sym, take, get_or}
use Rattle.std.proofs.lemmas.List.{take_more}
use Rattle.std.proofs.lemmas.List.Elements.{All-cons, All-nil}
use Rattle.std.specs.List.{AllZip}

-- one more order, and a thing for it
and_one : {K T : Type 0} (Is : K → T → Type 0) (orders : List K) (things : List T) (order : K) (thing : T) → AllZip Is orders things → Is order thing → AllZip Is (orders ++ order ∷ []) (things ++ thing ∷ [])
and_one Is [] [] order thing are is = (is, tt)
and_one Is [] (first ∷ things) order thing are is = absurd are
and_one Is (next ∷ orders) [] order thing are is = absurd are
and_one Is (next ∷ orders) (first ∷ things) order thing are is = (are.0, and_one Is orders things order thing are.1 is)

-- and one for the next of the orders
pub and_next : {K T : Type 0} (Is : K → T → Type 0) (orders : List K) (things : List T) {more : List T} (k : ℕ) (default : K) (thing : T) → k < length orders
    → AllZip Is (take k orders) things → Is (get_or orders k default) thing → more ≡ things ++ thing ∷ [] → AllZip Is (take (k + 1) orders) more
and_next Is orders things k default thing below are is pushed =
    let both = and_one Is (take k orders) things (get_or orders k default) thing are is in
    let next = subst (λ os. AllZip Is os (things ++ thing ∷ [])) (sym (take_more orders k default below)) both in
    subst (AllZip Is (take (k + 1) orders)) (sym pushed) next

-- what holds of a thing for an order holds of all
pub all_for : {K T : Type 0} (Is : K → T → Type 0) (P : T → Type 0) → ((order : K) (thing : T) → Is order thing → P thing) → (orders : List K) (things : List T) → AllZip Is orders things → All P things
all_for Is P holds [] [] are = All-nil P
all_for Is P holds [] (first ∷ things) are = absurd are
all_for Is P holds (order ∷ orders) [] are = absurd are
all_for Is P holds (order ∷ orders) (first ∷ things) are = All-cons P first things (holds order first are.0) (all_for Is P holds orders things are.1)
