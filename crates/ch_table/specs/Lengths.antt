-- The row of a table: a length for each target, or a number that stands for none.
use Rattle.std.specs.Prelude.{ℕ, ◌≡◌, ◌+◌, ◌*◌, ◌<◌, ◌≤◌, List, [], ◌∷◌, length, slice_index, Option, Some, None}
use Rattle.ch_cost.specs.declared.cost.Cost.{Cost}
use Rattle.ch_cost.specs.Cost.{length_of}
use Rattle.ch_graph.specs.Graph.{Graph}
use Rattle.ch_graph.specs.Hierarchy.{Hierarchy, IsRight, IsValue}
use Rattle.ch_query.specs.declared.seed.Seed.{Seed}
use Rattle.ch_query.specs.Seeds.{IsValueBetween, IsDistanceBetween}
use Rattle.ch_query.specs.Ways.{free}
use Rattle.ch_table.specs.declared.table.TheConstants.{NO_LENGTH}
pub mod Laws

-- a length, or the number that stands for none
abbrev pub length_or_none : Option Cost → ℕ
length_or_none None = NO_LENGTH
length_or_none (Some c) = length_of c

-- the length of a cost of this kind, or that number where none is the answer
pub record IsLengthOf (Is : Option Cost → Type 0) (n : ℕ) : Type 0 where
  pub cost : Option Cost
  pub is : Is cost
  pub written : n ≡ length_or_none cost

-- from one node to one other, the length of the value of the hierarchy
abbrev pub IsLengthFrom : Hierarchy → ℕ → ℕ → ℕ → Type 0
IsLengthFrom h s t = IsLengthOf (IsValue h s t)

-- from several starts, the length of the least walk that is no longer than the bound with its start
abbrev pub IsLengthFromAny : Hierarchy → List Seed → Cost → ℕ → ℕ → Type 0
IsLengthFromAny h starts bound t = IsLengthOf (IsValueBetween h starts (free t ∷ []) bound)

-- and that of the distance in each graph that the hierarchy is right for
abbrev pub IsExactLength : Hierarchy → List Seed → ℕ → ℕ → Type 0
IsExactLength h starts t = IsLengthOf (λ (v : Option Cost). (g : Graph) → IsRight g h → IsDistanceBetween g starts (free t ∷ []) v)

-- From a place on, each number is that of its target; the others stay.
pub record IsRow (Is : ℕ → ℕ → Type 0) (targets : List ℕ) (from : ℕ) (old new : List ℕ) : Type 0 where
  pub room : length new ≡ length old
  pub each : (k : ℕ) → k < length targets → Is (slice_index targets k) (slice_index new (from + k))
  pub before : (i : ℕ) → i < from → slice_index new i ≡ slice_index old i
  pub after : (i : ℕ) → from + length targets ≤ i → slice_index new i ≡ slice_index old i

-- Row after row from a place on, each number of the first n rows is that of its source and its target; the others stay.
pub record AreRows (Is : ℕ → ℕ → ℕ → Type 0) (sources targets : List ℕ) (from n : ℕ) (old new : List ℕ) : Type 0 where
  pub room : length new ≡ length old
  pub each : (i k : ℕ) → i < n → k < length targets → Is (slice_index sources i) (slice_index targets k) (slice_index new (from + (i * length targets + k)))
  pub before : (j : ℕ) → j < from → slice_index new j ≡ slice_index old j
  pub after : (j : ℕ) → from + n * length targets ≤ j → slice_index new j ≡ slice_index old j

-- so are some first rows, but not all
pub record AreFirstRows (Is : ℕ → ℕ → ℕ → Type 0) (sources targets : List ℕ) (from : ℕ) (old new : List ℕ) : Type 0 where
  pub count : ℕ
  pub fewer : count < length sources
  pub rows : AreRows Is sources targets from count old new
