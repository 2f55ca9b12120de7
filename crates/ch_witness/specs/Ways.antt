-- What a search gives: ways, and the rows that they rest on.
use Rattle.std.specs.Prelude.{ℕ, ◌≡◌, ◌≢◌, ◌<◌, List, length, Option, Some, None, All, AllPairs, Contains, IfSome, IsSomeAnd, codes, slice_index, slice_index_or}
use Rattle.ch_cost.specs.declared.cost.Cost.{Cost}
use Rattle.ch_cost.specs.Cost.{◌≼◌}
use Rattle.ch_graph.specs.Walk.{Along}
use Rattle.ch_laws.specs.Rows.{Lists}
use Rattle.ch_laws.specs.Verdicts.{SeenArc}
use Rattle.ch_overlay.specs.declared.source.Seen.{Seen}
use Rattle.ch_overlay.specs.Source.{row_in, row_of}
use Rattle.ch_witness.specs.declared.label.Label.{Label}
use Rattle.ch_witness.specs.declared.way.Way.{Way}
use Rattle.ch_witness.specs.declared.error.SearchError.{SearchError}
use Rattle.ch_witness.specs.declared.error.SearchError.TheVariants.{OutOfMemory, Unseen}

-- The way leads from one node to another along arcs of the rows that were seen, none of which has a rank. It doesn't
-- enter the node that is avoided, and costs what its arcs do.
abbrev pub IsWay : List Seen → ℕ → ℕ → ℕ → Way → Type 0
IsWay seen avoid from to w = Along (SeenArc (row_of seen) avoid) w.nodes.items from to w.cost

-- the way that was found to the target at a place of the list
abbrev pub way_at : List (Option Way) → ℕ → Option Way
way_at ways k = slice_index_or ways k None

-- for each target a way to it that costs at most the cutoff, or none
pub record AreWays (seen : List Seen) (from avoid : ℕ) (cutoff : Cost) (targets : List ℕ) (ways : List (Option Way)) : Type 0 where
  pub many : length ways ≡ length targets
  pub leads : (k : ℕ) → k < length targets → IfSome (way_at ways k) (IsWay seen avoid from (slice_index targets k))
  pub at_most : (k : ℕ) → k < length targets → IfSome (way_at ways k) (λ w. w.cost ≼ cutoff)

-- The rows are of different nodes, and none of them has a rank.
pub record AreUnrankedRows (seen : List Seen) : Type 0 where
  pub once : AllPairs (λ a b. a.node ≢ b.node) seen
  pub unranked : All (λ s. (row_in s).rank ≡ None) seen

-- the target is reached at a cost of at most this
abbrev pub IsFound : List (Option Way) → ℕ → Cost → Type 0
IsFound ways k c = IsSomeAnd (way_at ways k) (λ w. w.cost ≼ c)

-- The row of the start as it was read: where it has no rank, it is among those that the ways rest on, and each
-- target that it has an arc to is reached at a cost of at most that arc's, where that isn't above the cutoff.
pub record IsStartRead (seen : List Seen) (from : ℕ) (cutoff : Cost) (targets : List ℕ) (ways : List (Option Way)) (s : Seen) : Type 0 where
  pub node : s.node ≡ from
  pub among : (row_in s).rank ≡ None → Contains seen s
  pub direct : (row_in s).rank ≡ None → (k : ℕ) (c : Cost) → k < length targets → Lists (row_in s).out (slice_index targets k) c → c ≼ cutoff → IsFound ways k c

-- the way has what the label knows
abbrev pub IsWayOf : List Seen → ℕ → ℕ → ℕ → Option Label → Option Way → Type 0
IsWayOf seen avoid from to None None = Unit {0}
IsWayOf seen avoid from to (Some l) (Some w) = (w.cost ≡ l.cost) × IsWay seen avoid from to w
IsWayOf seen avoid from to None (Some w) = ⊥
IsWayOf seen avoid from to (Some l) None = ⊥

-- the variant's name
abbrev pub error_name : SearchError → List ℕ
error_name OutOfMemory = codes "OutOfMemory"
error_name Unseen = codes "Unseen"
