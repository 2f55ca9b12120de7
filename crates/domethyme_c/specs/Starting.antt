-- How sums from several starts are found: by a row for each.
use Rattle.std.specs.Prelude.{ℕ, ◌≡◌, ◌≢◌, ◌+◌, ◌^◌, ◌<◌, ◌≤◌, List, Some, length, slice_get, slice_index}
use Rattle.ch_cost.specs.Cost.{length_of}
use Rattle.ch_graph.specs.Hierarchy.{Hierarchy}
use Rattle.ch_query.specs.declared.seed.Seed.{Seed}
use Rattle.domethyme_c.specs.Sums.{IsSumOrNone}
use Rattle.domethyme_c.specs.declared.code.TheConstants.{NO_LENGTH}
use Rattle.domethyme_c.specs.declared.sums.SumInfo.{SumInfo}

-- a start of this length leads to a node in the length n by a path of length m
pub record Attains (n start m : ℕ) : Type 0 where
  pub some : n ≢ NO_LENGTH
  pub within : n < 2 ^ 64
  pub sum : start + m ≡ n

-- the sum of such a path with what is added at the start is taken in place of what was
pub record IsTaken (n start m sum added old new : ℕ) : Type 0 where
  pub attained : Attains n start m → new ≡ sum + added
  pub other : (Attains n start m → ⊥) → new ≡ old
  pub within : n < 2 ^ 64

-- so it is at the first nodes, so many, and the others stay
pub record AreTaken (lengths row sums : List ℕ) (start added count : ℕ) (old new : List ℕ) : Type 0 where
  pub room : length new ≡ length old
  pub each : (p : ℕ) → p < count → IsTaken (slice_index lengths p) start (slice_index row p) (slice_index sums p) added (slice_index old p) (slice_index new p)
  pub rest : (p : ℕ) → count ≤ p → slice_index new p ≡ slice_index old p

-- The number at a node is the sum from one of the first starts, so many, that leads to it in the length n; or none does.
pub data IsSumOfStart (h : Hierarchy) (set : List ℕ) (starts : List Seed) (added : List ℕ) (count t n m : ℕ) : Type 0 where
  taken : (k : ℕ) (start : Seed) (cell : SumInfo) → k < count → slice_get starts k ≡ Some start → IsSumOrNone h set start.node t cell → Attains n (length_of start.cost) cell.length
      → m ≡ cell.sum + slice_index added k → IsSumOfStart h set starts added count t n m
  none : m ≡ NO_LENGTH
      → ((k : ℕ) (start : Seed) → k < count → slice_get starts k ≡ Some start → (cell : SumInfo) × IsSumOrNone h set start.node t cell × (n < 2 ^ 64) × (Attains n (length_of start.cost) cell.length → ⊥)) → IsSumOfStart h set starts added count t n m

-- so it is at each target
pub record AreSumsOfStarts (h : Hierarchy) (set : List ℕ) (starts : List Seed) (added : List ℕ) (count : ℕ) (targets lengths sums : List ℕ) : Type 0 where
  pub room : length sums ≡ length lengths
  pub each : (p : ℕ) → p < length targets → IsSumOfStart h set starts added count (slice_index targets p) (slice_index lengths p) (slice_index sums p)
