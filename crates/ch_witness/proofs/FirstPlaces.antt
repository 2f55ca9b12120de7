-- The first places of a list that gets longer.
use Rattle.std.proofs.Common.{ℕ, ◌≡◌, ◌≢◌, true, false, List, [], ◌∷◌, ◌++◌, filter, not, nat_eq, Contains, refl, ap, sym, ◌∙◌, arith, subst, inl, inr}
use Rattle.std.proofs.lemmas.Bool.Decides.{nat_tests}
use Rattle.std.proofs.lemmas.List.{append-nil}
use Rattle.std.proofs.lemmas.List.Elements.{filter-append}
use Rattle.ch_laws.specs.Members.{contains_cases, contains_later, find_by}
use Rattle.ch_witness.specs.FirstPlaces.{first_places}

others : ℕ → List ℕ → List ℕ
others x ys = filter (λ y. not (nat_eq y x)) ys

others-same : (x : ℕ) → others x (x ∷ []) ≡ []
unfolding others
others-same x =
    let test : nat_eq x x ≡ true = grind (arith, nat_tests) in
    rw test refl

others-apart : (x v : ℕ) → x ≢ v → others x (v ∷ []) ≡ v ∷ []
unfolding others
others-apart x v apart =
    let test : nat_eq v x ≡ false = grind (arith, nat_tests, apart) in
    rw test refl

-- a number that the list hasn't comes at the end
pub first_places-new : (xs : List ℕ) (v : ℕ) → (Contains xs v → ⊥) → first_places (xs ++ v ∷ []) ≡ first_places xs ++ v ∷ []
unfolding others
first_places-new [] v absent = refl
first_places-new (x ∷ xs) v absent =
    ap (λ ys. x ∷ others x ys) (first_places-new xs v (λ h. absent (contains_later x xs v h)))
    ∙ ap (λ ys. x ∷ ys) (filter-append (λ y. not (nat_eq y x)) (first_places xs) (v ∷ []) ∙ ap (λ ys. others x (first_places xs) ++ ys) (others-apart x v (λ e. absent (at e))))
  where
    at : x ≡ v → Contains (x ∷ xs) v
    at e = (0, omega arith, e)

-- and one that it has doesn't come again
pub first_places-old : (xs : List ℕ) (v : ℕ) → Contains xs v → first_places (xs ++ v ∷ []) ≡ first_places xs
unfolding others
first_places-old [] v among = absurd (omega (arith, among.1))
first_places-old (x ∷ xs) v among = elim (find_by (λ y. y) xs v) [
  | inl found ↦ ap (λ ys. x ∷ others x ys) (first_places-old xs v (subst (λ y. Contains xs y) found.2 found.1))
  | inr none ↦ elim (contains_cases x xs v among) [
    | inl same ↦
        ap (λ ys. x ∷ others x ys) (first_places-new xs v (λ h. none v h refl))
        ∙ ap (λ ys. x ∷ ys) (filter-append (λ y. not (nat_eq y x)) (first_places xs) (v ∷ []) ∙ ap (λ ys. others x (first_places xs) ++ ys) (ap (λ y. others x (y ∷ [])) (sym same) ∙ others-same x) ∙ append-nil (others x (first_places xs)))
    | inr later ↦ absurd (none v later refl)
  ]
]
