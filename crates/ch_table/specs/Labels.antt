-- Labels of ranks: the length of what is least there, or one more than the bound where there is nothing.
use Rattle.std.specs.Prelude.{ℕ, ◌≡◌, ◌+◌, ◌<◌, ◌≤◌, List, [], length, slice_index, slice_index_or, All, Option, Some, None}
use Rattle.ch_cost.specs.declared.cost.Cost.{Cost}
use Rattle.ch_cost.specs.Cost.{length_of}
use Rattle.ch_graph.specs.Hierarchy.{Hierarchy}
use Rattle.ch_graph.specs.Walk.{IsLeastOrNone}
use Rattle.ch_query.specs.declared.seed.Seed.{Seed}
use Rattle.ch_query.specs.declared.side.Side.TheVariants.{Rise}
use Rattle.ch_query.specs.Ways.{IsClimb}

-- one more than the bound is far: no label is more, and a sum that is more is no label
abbrev pub far : Cost → ℕ
far bound = length_of bound + 1

abbrev pub label_of : Cost → Option Cost → ℕ
label_of bound None = far bound
label_of bound (Some c) = length_of c

-- the label of the least of what has such a cost
pub record IsLabel (Has : Cost → Type 0) (bound : Cost) (n : ℕ) : Type 0 where
  pub cost : Option Cost
  pub least : IsLeastOrNone Has cost
  pub is : n ≡ label_of bound cost

-- the label of a lane at a place, of those that are kept place by place
abbrev pub lane_of : List (List ℕ) → ℕ → ℕ → ℕ
lane_of labels lane place = slice_index (slice_index_or labels place []) lane

-- labels of so many lanes at so many places
pub record HaveLanes (places lanes : ℕ) (labels : List (List ℕ)) : Type 0 where
  pub count : length labels ≡ places
  pub wide : All (λ (row : List ℕ). length row ≡ lanes) labels

-- none is more than far
abbrev pub AreSmall : Cost → List (List ℕ) → Type 0
AreSmall bound labels = (lane place : ℕ) → lane_of labels lane place ≤ far bound

-- a label for each rank, by its place
abbrev pub AreLabels : (ℕ → Cost → Type 0) → Cost → List ℕ → (ℕ → ℕ) → Type 0
AreLabels Has bound ranks label = (p : ℕ) → p < length ranks → IsLabel (Has (slice_index ranks p)) bound (label p)

-- From a place on the labels are of the one kind, and before it of the other.
pub record AreSwept (Has Had : ℕ → Cost → Type 0) (bound : Cost) (ranks : List ℕ) (label : ℕ → ℕ) (place : ℕ) : Type 0 where
  pub before : (p : ℕ) → p < place → p < length ranks → IsLabel (Had (slice_index ranks p)) bound (label p)
  pub after : (p : ℕ) → place ≤ p → p < length ranks → IsLabel (Has (slice_index ranks p)) bound (label p)

-- The first lanes of so many, each with starts of its own, have the labels of climbs; in the others all is far.
pub record AreRaisedTo (h : Hierarchy) (starts : ℕ → List Seed) (bound : Cost) (ranks : List ℕ) (lanes : ℕ) (labels : List (List ℕ)) (n : ℕ) : Type 0 where
  pub small : AreSmall bound labels
  pub climbs : (j : ℕ) → j < n → AreLabels (IsClimb h Rise (starts j) bound) bound ranks (lane_of labels j)
  pub rest : (j p : ℕ) → n ≤ j → j < lanes → p < length ranks → lane_of labels j p ≡ far bound

-- the lesser of a label and of the sum over a link
pub record IsLeastOver (old sum new : ℕ) : Type 0 where
  pub less : sum < old → new ≡ sum
  pub stays : old ≤ sum → new ≡ old
