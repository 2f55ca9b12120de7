-- Laws of walks whose arcs are of another kind too.
use Rattle.std.specs.Prelude.{ℕ, ◌≡◌, List, [], ◌∷◌, ◌++◌, Contains, refl}
use Rattle.std.proofs.Common.{ap, sym, subst, ◌∙◌}
use Rattle.ch_cost.specs.declared.cost.Cost.{Cost}
use Rattle.ch_graph.specs.Walk.{Along, Walk, visited, Walk.stay, Walk.go}
use Rattle.ch_laws.specs.Members.{contains_first, contains_later}

-- Equal lists

-- equal lists have equal first elements
pub heads : (x y : ℕ) (xs ys : List ℕ) → x ∷ xs ≡ y ∷ ys → x ≡ y
heads x y xs ys e = cc

-- and equal rests
pub tails : (x y : ℕ) (xs ys : List ℕ) → x ∷ xs ≡ y ∷ ys → xs ≡ ys
tails x y xs ys e = cc

-- a list of two elements or more isn't one of one
pub too-long : (x y z : ℕ) (xs : List ℕ) → x ∷ y ∷ xs ≡ z ∷ [] → ⊥
too-long x y z xs e = absurd (cc)

-- Walks

module _ (A B : ℕ → ℕ → Cost → Type 0) where
  -- a walk whose arcs are of another kind too, where they leave one of its nodes but the last
  pub moved : {x z : ℕ} {c : Cost} (w : Walk A x z c) (inner : List ℕ) (last : ℕ) → x ∷ visited w ≡ inner ++ last ∷ [] → ((y t : ℕ) (d : Cost) → Contains inner y → A y t d → B y t d) → (v : Walk B x z c) × (visited v ≡ visited w)
  moved stay inner last e to = (stay, refl)
  moved (go {x = x} {y = y} arc rest) [] last e to = absurd (too-long x y last (visited rest) e)
  moved (go {x = x} {y = y} {c = c} arc rest) (n ∷ inner) last e to =
      let other = moved rest inner last (tails x n _ _ e) (λ s t d among. to s t d (contains_later n inner s among)) in
      (go (to x y c (subst (λ (m : ℕ). Contains (m ∷ inner) x) (heads x n _ _ e) (contains_first x inner)) arc) other.0, ap (λ (ys : List ℕ). y ∷ ys) other.1)

-- a list that isn't empty has a last element
last_of : (x : ℕ) (xs : List ℕ) → (inner : List ℕ) × ((last : ℕ) × (x ∷ xs ≡ inner ++ last ∷ []))
last_of x [] = ([], (x, refl))
last_of x (y ∷ xs) =
    let rest = last_of y xs in
    (x ∷ rest.0, (rest.1.0, ap (λ (ys : List ℕ). x ∷ ys) rest.1.1))

-- so a walk along these nodes is one of the other kind, where all its arcs are
pub along_moved : (A B : ℕ → ℕ → Cost → Type 0) (nodes : List ℕ) (x z : ℕ) (c : Cost) → ((y t : ℕ) (d : Cost) → A y t d → B y t d) → Along A nodes x z c → Along B nodes x z c
along_moved A B nodes x z c to along =
    let parts = last_of x (visited along.0) in
    let other = moved A B along.0 parts.0 parts.1.0 parts.1.1 (λ y t d among. to y t d) in
    (other.0, along.1 ∙ ap (λ (ys : List ℕ). x ∷ ys) (sym other.1))
