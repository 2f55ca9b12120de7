-- The two parts of a walk over ranks, which one search from several starts to very many nodes takes apart: a climb, and the
-- links that fall from its top.
use Rattle.std.specs.Prelude.{ℕ, ◌≡◌, ◌<◌, ◌≤◌, ◌^◌, ◌↔◌, List, [], ◌∷◌, length, map, slice_index_or, Option, All, Contains}
use Rattle.ch_cost.specs.declared.cost.Cost.{Cost}
use Rattle.ch_cost.specs.Cost.{zero_cost, ◌⊕◌, length_of, IsNoLonger}
use Rattle.ch_graph.specs.Walk.{Walk, IsLeast}
use Rattle.ch_graph.specs.Graph.{Graph}
use Rattle.ch_graph.specs.Hierarchy.{Hierarchy, IsRight, IsValue, IsWellMade, rank_of}
use Rattle.ch_graph.specs.Searching.{StartedWalk}
use Rattle.ch_query.specs.declared.climb.Climbed.{Climbed}
use Rattle.ch_query.specs.declared.fall.Fall.{Fall}
use Rattle.ch_query.specs.declared.seed.Seed.{Seed}
use Rattle.ch_query.specs.declared.side.Side.{Side}
use Rattle.ch_query.specs.declared.side.Side.TheVariants.{Rise, Fall as falling}
use Rattle.ch_query.specs.Climb.{foot_rank, head_rank, cost_at, Climbs}
use Rattle.ch_query.specs.Searching.{LinkArc}
use Rattle.ch_query.specs.Seeds.{AreSeeds, IsSeedAt, HasWalkBetween, IsValueBetween, IsDistanceBetween, longest}

-- Climbs

-- a climb of a side from one of its seeds to the rank r costs c with the seed, which is no longer than the bound
pub record IsClimb (h : Hierarchy) (side : Side) (seeds : List Seed) (bound : Cost) (r : ℕ) (c : Cost) : Type 0 where
  pub climb : StartedWalk (LinkArc h side) (IsSeedAt h seeds) r c
  pub short : IsNoLonger c bound

-- the length of the least climb to a rank
pub record IsLeastClimb (h : Hierarchy) (side : Side) (seeds : List Seed) (bound : Cost) (climbed : Climbed) : Type 0 where
  pub rank_in : climbed.rank < length h.ranks
  pub cost : Cost
  pub least : IsLeast (IsClimb h side seeds bound climbed.rank) cost
  pub long : climbed.length ≡ length_of cost

-- the least climb to each rank that a climb leads to
pub record AreLeastClimbs (h : Hierarchy) (side : Side) (seeds : List Seed) (bound : Cost) (climbs : List Climbed) : Type 0 where
  pub each : All (IsLeastClimb h side seeds bound) climbs
  pub all : (r : ℕ) (c : Cost) → IsClimb h side seeds bound r c → (k : ℕ) × (k < length climbs) × ((d : Climbed) → (slice_index_or climbs k d).rank ≡ r)

-- Falls

-- the link at a place as a fall: the rank of the node that it leaves, and its length
abbrev pub fall_along : Hierarchy → ℕ → Fall
fall_along h k = record { tail = head_rank h falling k; length = length_of (cost_at h k) }

-- the link at this place falls to the rank r
pub record FallsTo (h : Hierarchy) (r k : ℕ) : Type 0 where
  pub falls : Climbs h falling k
  pub to : foot_rank h falling k ≡ r

-- a fall leaves a node above the rank r, and is no longer than a walk may be
pub record IsFallAbove (h : Hierarchy) (r : ℕ) (fall : Fall) : Type 0 where
  pub tail_in : fall.tail < length h.ranks
  pub above : r < fall.tail
  pub short : fall.length ≤ 2 ^ 57

-- the falls are exactly the links that fall to the rank r
pub record AreFallsTo (h : Hierarchy) (r : ℕ) (falls : List Fall) : Type 0 where
  pub links : List ℕ
  pub along : falls ≡ map (fall_along h) links
  pub only : All (FallsTo h r) links
  pub each : (k : ℕ) → FallsTo h r k → Contains links k
  pub above : All (IsFallAbove h r) falls

-- Both

-- A way to the rank r: a climb from one of the starts to a top, and links that fall from there; it costs c with the start,
-- which is no longer than the bound.
pub record IsWay (h : Hierarchy) (starts : List Seed) (bound : Cost) (r : ℕ) (c : Cost) : Type 0 where
  pub top : ℕ
  pub up : Cost
  pub rise : StartedWalk (LinkArc h Rise) (IsSeedAt h starts) top up
  pub down : Cost
  pub fall : Walk (LinkArc h falling) r top down
  pub sum : c ≡ up ⊕ down
  pub short : IsNoLonger c bound

-- a node at no cost
abbrev pub free : ℕ → Seed
free v = record { node = v; cost = zero_cost }

-- Laws

-- the ways to the rank of a node are the walks to that node from the starts
abbrev pub WaysAreWalks : Type 0
WaysAreWalks =
    (h : Hierarchy) (starts : List Seed) (bound : Cost) (t : ℕ) → IsWellMade h → AreSeeds h starts → t < length h.ranks
    → (c : Cost) → IsWay h starts bound (rank_of h t) c ↔ HasWalkBetween h starts (free t ∷ []) bound c

-- from one node to one other at no cost, the least of them within the bound of the hierarchy is its value
abbrev pub FreeValueIsValue : Type 0
FreeValueIsValue = (h : Hierarchy) (s t : ℕ) (v : Option Cost) → IsValueBetween h (free s ∷ []) (free t ∷ []) h.bound v → IsValue h s t v

-- and the least within the greatest length is the distance in each graph that the hierarchy is right for
abbrev pub LongestIsExact : Type 0
LongestIsExact =
    (h : Hierarchy) (starts ends : List Seed) (v : Option Cost) → IsWellMade h → AreSeeds h starts → AreSeeds h ends → IsValueBetween h starts ends longest v
    → (g : Graph) → IsRight g h → IsDistanceBetween g starts ends v
