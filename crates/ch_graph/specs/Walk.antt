-- Walks over arcs of any kind, and what is least.
use Rattle.std.specs.Prelude.{ℕ, ◌≡◌, List, [], ◌∷◌, Option, Some, None}
use Rattle.ch_cost.specs.declared.cost.Cost.{Cost}
use Rattle.ch_cost.specs.Cost.{zero_cost, ◌⊕◌, ◌≼◌}
pub mod Laws

-- A walk is a list of arcs, each beginning where the last one ended: to stay costs nothing, and to go over an
-- arc and then a walk costs both together. `Arc x y c` says that an arc from x to y costs c.
pub data Walk (Arc : ℕ → ℕ → Cost → Type 0) : ℕ → ℕ → Cost → Type 0 where
  stay : {x : ℕ} → Walk Arc x x zero_cost
  go : {x y z : ℕ} {c d : Cost} → Arc x y c → Walk Arc y z d → Walk Arc x z (c ⊕ d)

-- the least of the costs that something has
abbrev pub IsLeast : (Cost → Type 0) → Cost → Type 0
IsLeast P c = P c × ((d : Cost) → P d → c ≼ d)

-- the least of them, or none where nothing has a cost
abbrev pub IsLeastOrNone : (Cost → Type 0) → Option Cost → Type 0
IsLeastOrNone P (Some c) = IsLeast P c
IsLeastOrNone P None = (c : Cost) → P c → ⊥

-- the nodes that a walk comes to after its first
abbrev pub visited : {Arc : ℕ → ℕ → Cost → Type 0} {x z : ℕ} {c : Cost} → Walk Arc x z c → List ℕ
visited stay = []
visited (go {y = y} arc rest) = y ∷ visited rest

-- some walk from the first of these nodes goes along the others, ends at z and costs c
abbrev pub Along : (ℕ → ℕ → Cost → Type 0) → List ℕ → ℕ → ℕ → Cost → Type 0
Along Arc nodes x z c = (w : Walk Arc x z c) × (nodes ≡ x ∷ visited w)
