-- Sums of numbers along the walks that labels are of, and rows of them.
use Rattle.std.specs.Prelude.{ℕ, ◌≡◌, ◌+◌, ◌-◌, ◌*◌, ◌^◌, ◌<◌, ◌≤◌, List, [], ◌∷◌, length, slice_index, slice_index_or, Option, Some, None}
use Rattle.ch_cost.specs.declared.cost.Cost.{Cost}
use Rattle.ch_cost.specs.Cost.{length_of}
use Rattle.ch_graph.specs.Hierarchy.{Hierarchy, IsValue, rank_of}
use Rattle.ch_query.specs.declared.climb.Climbed.{Climbed}
use Rattle.ch_query.specs.declared.seed.Seed.{Seed}
use Rattle.ch_query.specs.declared.side.Side.TheVariants.{Fall as falling}
use Rattle.ch_query.specs.Climb.{LeadsUp}
use Rattle.ch_query.specs.Seeds.{IsValueBetween}
use Rattle.ch_query.specs.Sums.{IsSummedWay}
use Rattle.ch_query.specs.Ways.{free}
use Rattle.ch_table.specs.Labels.{lane_of}
use Rattle.ch_table.specs.Selection.{Selection}
use Rattle.ch_table.specs.declared.table.TheConstants.{NO_LENGTH}

-- Rows

-- the sum along a walk of the least length, which is at most 2^62, or the number that stands for none
abbrev pub IsSumOrNone : Hierarchy → List ℕ → List Seed → ℕ → ℕ → Option Cost → Type 0
IsSumOrNone h numbers starts t m None = m ≡ NO_LENGTH
IsSumOrNone h numbers starts t m (Some c) = IsSummedWay h numbers starts (rank_of h t) (length_of c) m × (m ≤ 2 ^ 62)

-- from several starts
pub record IsSumFromAny (h : Hierarchy) (numbers : List ℕ) (starts : List Seed) (bound : Cost) (t m : ℕ) : Type 0 where
  pub cost : Option Cost
  pub is : IsValueBetween h starts (free t ∷ []) bound cost
  pub sum : IsSumOrNone h numbers starts t m cost

-- from one node
pub record IsSumFrom (h : Hierarchy) (numbers : List ℕ) (s t m : ℕ) : Type 0 where
  pub cost : Option Cost
  pub is : IsValue h s t cost
  pub sum : IsSumOrNone h numbers (free s ∷ []) t m cost

-- The links of a selection

-- the numbers of its links, in the order of the selection
pub record AreStepNumbers (h : Hierarchy) (numbers : List ℕ) (s : Selection) (steps : List ℕ) : Type 0 where
  pub count : length steps ≡ length s.tails
  pub each : (p at k : ℕ) → p < length s.ranks → slice_index s.first p ≤ at → at < slice_index s.first (p + 1)
      → LeadsUp h falling (slice_index s.ranks p) (slice_index s.ranks (slice_index s.tails at)) k → slice_index steps at ≡ slice_index numbers k

-- those of the links before a place among all links
pub record AreStepNumbersTo (h : Hierarchy) (numbers : List ℕ) (s : Selection) (n : ℕ) (steps : List ℕ) : Type 0 where
  pub count : length steps ≡ length s.tails
  pub each : (p at k : ℕ) → p < length s.ranks → slice_index s.first p ≤ at → at < slice_index s.first (p + 1) → at < n
      → LeadsUp h falling (slice_index s.ranks p) (slice_index s.ranks (slice_index s.tails at)) k → slice_index steps at ≡ slice_index numbers k

-- Lanes

-- beside each label that isn't far is the sum along a way of its length, from the starts of its lane
pub record HaveSums (h : Hierarchy) (numbers : List ℕ) (starts : ℕ → List Seed) (bound : Cost) (ranks : List ℕ) (lanes : ℕ) (labels sums : List (List ℕ)) : Type 0 where
  pub each : (lane p : ℕ) → lane < lanes → p < length ranks → lane_of labels lane p ≤ length_of bound → IsSummedWay h numbers (starts lane) (slice_index ranks p) (lane_of labels lane p) (lane_of sums lane p)

-- a climb to a rank has no more links than that, and those that fall from it to another no more than the ranks between
abbrev pub AreSmallSums : ℕ → List ℕ → List (List ℕ) → Type 0
AreSmallSums nodes ranks sums = (lane p : ℕ) → lane_of sums lane p ≤ (nodes + (nodes - slice_index ranks p)) * 2 ^ 36

-- the sum that goes with the lesser of a label and of the length over a link
pub record IsSumOver (old long was other new : ℕ) : Type 0 where
  pub less : long < old → new ≡ other
  pub stays : old ≤ long → new ≡ was

-- so it is at one place
pub record IsPlaceSummed (h : Hierarchy) (numbers : List ℕ) (starts : ℕ → List Seed) (bound : Cost) (r lanes : ℕ) (labels sums : List ℕ) : Type 0 where
  pub each : (lane : ℕ) → lane < lanes → slice_index labels lane ≤ length_of bound → IsSummedWay h numbers (starts lane) r (slice_index labels lane) (slice_index sums lane)

-- the first n climbs have put what is kept for their ranks at the places of these
pub record AreRaisedSums (ranks : List ℕ) (climbs : List Climbed) (n : ℕ) (kept : List ℕ) (sum : ℕ → ℕ) : Type 0 where
  pub each : (k p : ℕ) (d : Climbed) → k < n → p < length ranks → (slice_index_or climbs k d).rank ≡ slice_index ranks p → sum p ≡ slice_index kept (slice_index ranks p)
