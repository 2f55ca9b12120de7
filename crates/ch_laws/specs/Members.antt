-- Laws of lists: their members, pairs of these, and lists of images.
use Rattle.std.specs.Prelude.{ℕ, ◌≡◌, ◌≢◌, ◌<◌, ◌⊎◌, List, [], ◌∷◌, length, map, AllPairs, Contains, refl}
use Rattle.std.proofs.Common.{zero, suc, get_or, arith, ◌∙◌, ap, subst, inl, inr}
use Rattle.std.proofs.lemmas.Bool.{cases_eq}
use Rattle.std.proofs.lemmas.List.{get_or_default}

-- Members

-- the first element is one
pub contains_first : {X : Type 0} (x : X) (xs : List X) → Contains (x ∷ xs) x
contains_first x xs = (0, omega arith, refl)

-- what is an element of the rest is one
pub contains_later : {X : Type 0} (x : X) (xs : List X) (y : X) → Contains xs y → Contains (x ∷ xs) y
contains_later x xs y h = (suc h.0, omega (arith, h.1), h.2)

-- an element is the first, or one of the rest
contains_at : {X : Type 0} (x : X) (xs : List X) (y : X) (k : ℕ) → k < length (x ∷ xs) → get_or (x ∷ xs) k y ≡ y → (x ≡ y) ⊎ Contains xs y
contains_at x xs y zero h is = inl is
contains_at x xs y (suc k) h is = inr (k, omega (arith, h), is)

-- the same without the place
pub contains_cases : {X : Type 0} (x : X) (xs : List X) (y : X) → Contains (x ∷ xs) y → (x ≡ y) ⊎ Contains xs y
contains_cases x xs y h = contains_at x xs y h.0 h.1 h.2

-- the empty list has none
pub contains_none : {X : Type 0} (y : X) → Contains [] y → ⊥
contains_none y h = omega (arith, h.1)

-- the element at a place
pub contains_place : {X : Type 0} (xs : List X) (k : ℕ) (d x : X) → k < length xs → get_or xs k d ≡ x → Contains xs x
contains_place xs k d x h is = (k, h, get_or_default xs k x d h ∙ is)

-- and the place of an element of a list of numbers
pub place_of : (xs : List ℕ) (x : ℕ) (h : Contains xs x) → get_or xs h.0 0 ≡ x
place_of xs x h = get_or_default xs h.0 0 x h.1 ∙ h.2

-- an element with this number, or none has it
pub find_by : {X : Type 0} (f : X → ℕ) (xs : List X) (n : ℕ) → ((x : X) × Contains xs x × (f x ≡ n)) ⊎ ((x : X) → Contains xs x → f x ≢ n)
find_by f [] n = inr (λ x h. absurd (contains_none x h))
find_by {X} f (y ∷ xs) n = elim (cases_eq (f y) n) [
  | inl same ↦ inl (y, contains_first y xs, same)
  | inr apart ↦ elim (find_by f xs n) [
    | inl found ↦ inl (found.0, contains_later y xs found.0 found.1, found.2)
    | inr none ↦ inr (λ x h. elim (contains_cases y xs x h) [
      | inl is ↦ subst (λ (z : X). f z ≢ n) is apart
      | inr later ↦ none x later
    ])
  ]
]

-- Pairs

-- what holds of all pairs holds of the first and each later one
pub pairs_first : {X : Type 0} (R : X → X → Type 0) (x : X) (xs : List X) → AllPairs R (x ∷ xs) → (y : X) → Contains xs y → R x y
pairs_first R x xs all y among = subst (λ z. R x z) among.2 (all 0 (suc among.0) y (omega arith) (omega (arith, among.1)))

-- and of all pairs of the rest
pub pairs_later : {X : Type 0} (R : X → X → Type 0) (x : X) (xs : List X) → AllPairs R (x ∷ xs) → AllPairs R xs
pairs_later R x xs all i j d less low = all (suc i) (suc j) d (omega (arith, less)) (omega (arith, low))

-- Images

-- the image of an element is one of the images
pub contains-map : {A B : Type 0} (f : A → B) (xs : List A) (x : A) → Contains xs x → Contains (map f xs) (f x)
contains-map f [] x h = absurd (contains_none x h)
contains-map f (y ∷ xs) x h = elim (contains_cases y xs x h) [
  | inl same ↦ subst (λ z. Contains (map f (y ∷ xs)) (f z)) same (contains_first (f y) (map f xs))
  | inr later ↦ contains_later (f y) (map f xs) (f x) (contains-map f xs x later)
]

-- and each of these is the image of one
pub contains-mapped : {A B : Type 0} (f : A → B) (xs : List A) (y : B) → Contains (map f xs) y → (x : A) × Contains xs x × (f x ≡ y)
contains-mapped f [] y h = absurd (contains_none y h)
contains-mapped f (x ∷ xs) y h = elim (contains_cases (f x) (map f xs) y h) [
  | inl same ↦ (x, contains_first x xs, same)
  | inr later ↦
      let found = contains-mapped f xs y later in
      (found.0, contains_later x xs found.0 found.1, found.2)
]

-- images of images
pub map-map : {A B C : Type 0} (f : A → B) (g : B → C) (xs : List A) → map g (map f xs) ≡ map (λ x. g (f x)) xs
map-map f g [] = refl
map-map f g (x ∷ xs) = ap (λ ys. g (f x) ∷ ys) (map-map f g xs)
