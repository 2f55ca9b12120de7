-- What calls answer that sum numbers along shortest paths: a table, and what is reached from several starts.
use Rattle.std.specs.Prelude.{ℕ, ◌≡◌, ◌≢◌, ◌+◌, ◌*◌, ◌<◌, ◌≤◌, ◌/◌, ◌%◌, ◌^◌, List, All, length, map, slice_get, slice_index, slice_index_or, Option, Some, None, option_map}
use Rattle.ch_cost.specs.Cost.{length_of}
use Rattle.ch_graph.specs.declared.road.Road.{Road}
use Rattle.ch_graph.specs.Graph.{Graph}
use Rattle.ch_graph.specs.Hierarchy.{Hierarchy}
use Rattle.ch_laws.specs.ByWeight.{IsRightByWeight}
use Rattle.ch_query.specs.declared.seed.Seed.{Seed}
use Rattle.ch_sums.specs.Numbers.{AreGiven, IsSummed, path_number}
use Rattle.ch_sums.specs.declared.along.Summed.{Summed}
use Rattle.best_routes.specs.BestRoutes.{IsPath, path_length}
use Rattle.domethyme_c.specs.Answers.{IsLength, IsLimit, IsReached, IsSeedRefusal, seed_of}
use Rattle.domethyme_c.specs.Sets.{IsSet, IsSetOf}
use Rattle.domethyme_c.specs.declared.code.TheConstants.{OK, NODE_RANGE, NO_ROOM, OUT_OF_MEMORY, BAD_LIMIT, NUMBER_COUNT, BAD_SET, NO_LENGTH}
use Rattle.domethyme_c.specs.declared.seeds.SeedInfo.{SeedInfo}
use Rattle.domethyme_c.specs.declared.sums.SumInfo.{SumInfo}

-- a length and a sum, or the number that stands for none twice
abbrev pub cell_of : Option Summed → SumInfo
cell_of (Some f) = record { length = f.length; sum = f.sum }
cell_of None = record { length = NO_LENGTH; sum = NO_LENGTH }

-- What is written of a pair: the length of a table without sums, and in each graph that the hierarchy is right for by weight
-- what the numbers that the set was made of sum to along some path of that length. No sum is above 2^62.
pub record IsSumOrNone (h : Hierarchy) (set : List ℕ) (from to : ℕ) (cell : SumInfo) : Type 0 where
  pub summed : Option Summed
  pub length : IsLength h from to (option_map (λ (f : Summed). f.length) summed)
  pub along : (given : List ℕ) (g : Graph) (number : ℕ → ℕ → ℕ) → IsSetOf h given set → IsRightByWeight g h → AreGiven h given number → IsSummed g number from to summed
  pub written : cell ≡ cell_of summed
  pub small : cell.length ≢ NO_LENGTH → cell.sum ≤ 2 ^ 62

-- so many cells are written, each of which is right, and the others stay
pub record AreCells (count : ℕ) (Is : ℕ → SumInfo → Type 0) (old new : List SumInfo) : Type 0 where
  pub room : length new ≡ length old
  pub each : (k : ℕ) (d : SumInfo) → k < count → Is k (slice_index_or new k d)
  pub rest : (k : ℕ) (d : SumInfo) → count ≤ k → slice_index_or new k d ≡ slice_index_or old k d

-- A table

-- the cell at a place of the table
abbrev pub IsCellOf : Hierarchy → List ℕ → List ℕ → List ℕ → ℕ → SumInfo → Type 0
IsCellOf h set sources targets k = IsSumOrNone h set (slice_index sources (k / length targets)) (slice_index targets (k % length targets))

-- all are nodes
abbrev pub HaveNodes : Hierarchy → List ℕ → List ℕ → Type 0
HaveNodes h sources targets = All (λ v. v < length h.ranks) sources × All (λ v. v < length h.ranks) targets

-- The cell of each source and each target, row by row. Refusals come in this order.
pub data IsSumsAnswer (h : Hierarchy) (set sources targets : List ℕ) (code : ℕ) (old new : List SumInfo) : Type 0 where
  found : code ≡ OK → IsSet h set → AreCells (length sources * length targets) (IsCellOf h set sources targets) old new → IsSumsAnswer h set sources targets code old new
  no_room : code ≡ NO_ROOM → length old < length sources * length targets → new ≡ old → IsSumsAnswer h set sources targets code old new
  out_of_range : code ≡ NODE_RANGE → length sources * length targets ≤ length old → (HaveNodes h sources targets → ⊥) → new ≡ old → IsSumsAnswer h set sources targets code old new
  bad_set : code ≡ BAD_SET → length sources * length targets ≤ length old → HaveNodes h sources targets → (IsSet h set → ⊥) → new ≡ old → IsSumsAnswer h set sources targets code old new
  no_memory : code ≡ OUT_OF_MEMORY → length sources * length targets ≤ length old → HaveNodes h sources targets → IsSumsAnswer h set sources targets code old new

-- From several starts

-- A path leads from a start to the node t. With the start it is n long, and with what is added at the start its numbers sum
-- to m.
pub record HasSumFrom (g : Graph) (number : ℕ → ℕ → ℕ) (starts : List Seed) (added : List ℕ) (t n m : ℕ) : Type 0 where
  pub k : ℕ
  pub start : Seed
  pub begins : slice_get starts k ≡ Some start
  pub path : List Road
  pub leads : IsPath g start.node t path
  pub long : n ≡ length_of start.cost + path_length path
  pub sums : m ≡ path_number number path + slice_index added k

-- What is written of a node: the length of a reach without sums, and in each graph that the hierarchy is right for by weight
-- what the numbers that the set was made of sum to along some path of that length, from a start whose own number is added.
pub record IsReachedSum (h : Hierarchy) (set : List ℕ) (starts : List Seed) (added : List ℕ) (limit node : ℕ) (cell : SumInfo) : Type 0 where
  pub length : IsReached h starts limit node cell.length
  pub none : cell.length ≡ NO_LENGTH → cell.sum ≡ NO_LENGTH
  pub along : (given : List ℕ) (g : Graph) (number : ℕ → ℕ → ℕ) → IsSetOf h given set → IsRightByWeight g h → AreGiven h given number → (cell.length ≡ NO_LENGTH → ⊥) → HasSumFrom g number starts added node cell.length cell.sum

-- The cell of each node. Refusals come in this order, and each has written nothing.
pub data IsReachSumsAnswer (h : Hierarchy) (set : List ℕ) (starts : List SeedInfo) (added : List ℕ) (limit code : ℕ) (old new : List SumInfo) : Type 0 where
  found : code ≡ OK → IsSet h set → AreCells (length h.ranks) (IsReachedSum h set (map seed_of starts) added limit) old new → IsReachSumsAnswer h set starts added limit code old new
  bad_limit : code ≡ BAD_LIMIT → (IsLimit limit → ⊥) → new ≡ old → IsReachSumsAnswer h set starts added limit code old new
  no_room : code ≡ NO_ROOM → IsLimit limit → length old < length h.ranks → new ≡ old → IsReachSumsAnswer h set starts added limit code old new
  bad_count : code ≡ NUMBER_COUNT → IsLimit limit → length h.ranks ≤ length old → (length added ≡ length starts → ⊥) → new ≡ old → IsReachSumsAnswer h set starts added limit code old new
  bad_set : code ≡ BAD_SET → IsLimit limit → length h.ranks ≤ length old → length added ≡ length starts → (IsSet h set → ⊥) → new ≡ old → IsReachSumsAnswer h set starts added limit code old new
  no_start : IsSeedRefusal h starts code → IsLimit limit → length h.ranks ≤ length old → length added ≡ length starts → IsSet h set → new ≡ old → IsReachSumsAnswer h set starts added limit code old new
  no_memory : code ≡ OUT_OF_MEMORY → IsLimit limit → length h.ranks ≤ length old → length added ≡ length starts → new ≡ old → IsReachSumsAnswer h set starts added limit code old new
