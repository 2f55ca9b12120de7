-- The part of a hierarchy that ways to some targets fall through: its nodes by rank, and the links that fall to each.
use Rattle.std.specs.Prelude.{ℕ, ◌≡◌, ◌+◌, ◌-◌, ◌^◌, ◌<◌, ◌≤◌, List, length, map, slice_index, slice_index_or, All, AllPairs, Contains}
use Rattle.ch_cost.specs.Cost.{length_of}
use Rattle.ch_graph.specs.Hierarchy.{Hierarchy, IsWellMade, rank_of}
use Rattle.ch_query.specs.declared.fall.Fall.{Fall}
use Rattle.ch_query.specs.Ways.{AreFallsTo}
use Rattle.ch_table.specs.declared.columns.Columns.{Columns}
use Rattle.ch_table.specs.declared.steps.Links.{Links}
use Rattle.ch_table.specs.declared.steps.Links.TheVariants.{Short, Long}
use Rattle.ch_table.specs.declared.steps.Steps.{Steps}
use Rattle.ch_table.specs.declared.table.Table.{Table}

-- The targets and the place of each; the rank of each place; for each rank its place and one more, or 0 for none; and for
-- each place where its links begin, of each of which are kept the place of the node that it leaves and its length.
pub record Selection : Type 0 where
  pub targets : List ℕ
  pub ends : List ℕ
  pub ranks : List ℕ
  pub places : List ℕ
  pub first : List ℕ
  pub tails : List ℕ
  pub lengths : List ℕ

-- the links, whatever numbers they are kept in
abbrev pub steps_of : Links → Steps ℕ
steps_of (Short steps) = steps
steps_of (Long steps) = steps

abbrev pub lists_of : Columns → Selection
lists_of c = record {
  targets = c.targets.items;
  ends = c.ends.items;
  ranks = c.ranks.items;
  places = c.places.items;
  first = (steps_of c.links).first.items;
  tails = (steps_of c.links).tails.items;
  lengths = (steps_of c.links).lengths.items;
}

-- these are the links of a selection, whose numbers are kept so
pub record AreLinksOf {X : Type 0} (number : X → ℕ) (steps : Steps X) (s : Selection) : Type 0 where
  pub first : map number steps.first.items ≡ s.first
  pub tails : steps.tails.items ≡ s.tails
  pub lengths : map number steps.lengths.items ≡ s.lengths

-- Ranks that rise, with those of all targets among them.
pub record AreRanksAbove (h : Hierarchy) (targets ranks : List ℕ) : Type 0 where
  pub few : length ranks ≤ length h.ranks
  pub rising : AllPairs ◌<◌ ranks
  pub in_range : All (λ r. r < length h.ranks) ranks
  pub ends : All (λ t. Contains ranks (rank_of h t)) targets

-- the places of the ranks, of so many
pub record ArePlaced (nodes : ℕ) (ranks places : List ℕ) : Type 0 where
  pub count : length places ≡ nodes
  pub here : (p : ℕ) → p < length ranks → slice_index places (slice_index ranks p) ≡ p + 1
  pub back : (r : ℕ) → 0 < slice_index places r → (slice_index places r - 1 < length ranks) × (slice_index ranks (slice_index places r - 1) ≡ r)

-- a link as it is kept: it leaves a later place
pub record IsStepOf (ranks tails lengths : List ℕ) (p at : ℕ) (fall : Fall) : Type 0 where
  pub later : p < slice_index tails at
  pub tail_in : slice_index tails at < length ranks
  pub tail : slice_index ranks (slice_index tails at) ≡ fall.tail
  pub long : slice_index lengths at ≡ fall.length

-- the links of a place are those that fall to its rank
pub record IsLaidDown (h : Hierarchy) (ranks first tails lengths : List ℕ) (p : ℕ) : Type 0 where
  pub falls : List Fall
  pub are : AreFallsTo h (slice_index ranks p) falls
  pub next : slice_index first (p + 1) ≡ slice_index first p + length falls
  pub within : slice_index first (p + 1) ≤ length tails
  pub each : (i : ℕ) (d : Fall) → i < length falls → IsStepOf ranks tails lengths p (slice_index first p + i) (slice_index_or falls i d)

-- the targets, with the place of each
pub record AreEnds (h : Hierarchy) (targets ranks ends : List ℕ) : Type 0 where
  pub targets_in : All (λ t. t < length h.ranks) targets
  pub count : length ends ≡ length targets
  pub each : (k : ℕ) → k < length targets → (slice_index ends k < length ranks) × (slice_index ranks (slice_index ends k) ≡ rank_of h (slice_index targets k))

-- a selection of a hierarchy: whatever its starts, each way to a target falls through it
pub record IsSelection (h : Hierarchy) (s : Selection) : Type 0 where
  pub ranks_in : All (λ r. r < length h.ranks) s.ranks
  pub ends : AreEnds h s.targets s.ranks s.ends
  pub placed : ArePlaced (length h.ranks) s.ranks s.places
  pub count : length s.first ≡ length s.ranks + 1
  pub lengths : length s.lengths ≡ length s.tails
  pub laid : (p : ℕ) → p < length s.ranks → IsLaidDown h s.ranks s.first s.tails s.lengths p

-- a table of which rows are worked out
pub record IsTable (table : Table) : Type 0 where
  pub made : IsWellMade table.hierarchy.now
  pub selection : IsSelection table.hierarchy.now (lists_of table.columns.now)
  pub bound : length_of table.bound ≤ 2 ^ 62
