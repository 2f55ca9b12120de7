-- Numbers of a list, each at its first place.
use Rattle.std.specs.Prelude.{ℕ, List, [], ◌∷◌, filter, not, nat_eq}

-- the numbers of a list, each once, in the order of their first places
abbrev pub first_places : List ℕ → List ℕ
first_places [] = []
first_places (x ∷ xs) = x ∷ filter (λ y. not (nat_eq y x)) (first_places xs)
