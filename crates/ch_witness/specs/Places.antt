-- Nodes, and the place of each.
use Rattle.std.specs.Prelude.{ℕ, ◌≡◌, ◌≢◌, ◌<◌, List, [], ◌∷◌, Option, Some, None, cond, length, nat_eq, slice_index}

-- at the number of each node the list has its place
pub record ArePlacesOf (places nodes : List ℕ) : Type 0 where
  pub within : (k : ℕ) → k < length nodes → slice_index nodes k < length places
  pub here : (k : ℕ) → k < length nodes → slice_index places (slice_index nodes k) ≡ k

-- the node is at this place, and at none before it
pub record IsFirstAt (nodes : List ℕ) (node k : ℕ) : Type 0 where
  pub within : k < length nodes
  pub here : slice_index nodes k ≡ node
  pub first : (j : ℕ) → j < k → slice_index nodes j ≢ node

-- the value at the place of the node
abbrev pub value_in : {X : Type 0} → List ℕ → List X → ℕ → Option X
value_in (n ∷ nodes) (x ∷ values) node = cond (nat_eq n node) (Some x) (value_in nodes values node)
value_in [] values node = None
value_in (n ∷ nodes) [] node = None
