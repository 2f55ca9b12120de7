-- Which numbers have come as ranks.
use Rattle.std.specs.Prelude.{ℕ, ◌≡◌, ◌<◌, ◌==◌, ⊤, Bool, false, List, length, All, slice_index_or}
use Rattle.std.specs.Ordering.{nat_cmp}
use Rattle.std.specs.List.{list_any}
use Rattle.std.specs.BTreeSet as sets
use Rattle.hierfile.specs.declared.taken.Taken.{Taken}
use Rattle.hierfile.specs.declared.taken.Taken.TheVariants.{Few, Marks}

-- whether a number has come
abbrev pub is_taken : Taken → ℕ → Bool
is_taken (Few ranks) n = sets.contains nat_cmp ranks n
is_taken (Marks marks) n = slice_index_or marks.items n false

-- marks are there for the numbers below this one
abbrev pub HasPlaces : ℕ → Taken → Type 0
HasPlaces nodes (Few ranks) = ⊤
HasPlaces nodes (Marks marks) = length marks.items ≡ nodes

-- this number can be taken
abbrev pub HasPlaceOf : Taken → ℕ → Type 0
HasPlaceOf (Few ranks) n = ⊤
HasPlaceOf (Marks marks) n = n < length marks.items

-- the marks say of each number whether it is one of these
abbrev pub AreMarksOf : List ℕ → List Bool → Type 0
AreMarksOf numbers marks = (n : ℕ) → slice_index_or marks n false ≡ list_any (λ m. m == n) numbers

-- what has come are these ranks of this many nodes
pub record AreTaken (nodes : ℕ) (taken : Taken) (ranks : List ℕ) : Type 0 where
  pub places : HasPlaces nodes taken
  pub below : All (λ r. r < nodes) ranks
  pub same : (n : ℕ) → is_taken taken n ≡ list_any (λ m. m == n) ranks
