-- Why ranks, links and a bound make no hierarchy.
use Rattle.std.specs.Prelude.{ℕ, ◌≡◌, ◌≢◌, ◌+◌, ◌-◌, ◌^◌, ◌<◌, ⊤, List, length, slice_index, slice_index_or}
use Rattle.ch_cost.specs.declared.cost.Cost.{Cost}
use Rattle.ch_cost.specs.Cost.{◌⊕◌, cost_of_arcs, arcs_of, IsWithin}
use Rattle.ch_graph.specs.declared.error.HierarchyError.{HierarchyError}
use Rattle.ch_graph.specs.declared.error.HierarchyError.TheVariants.{TooManyNodes, BadBound, BadRank, LinkOutOfOrder, BadLink, OutOfMemory}
use Rattle.ch_graph.specs.declared.link.Link.{Link}
use Rattle.ch_graph.specs.declared.version.Version.{Version}
use Rattle.ch_graph.specs.Hierarchy.{Hierarchy, ComesBefore, Counts, IsLinkAt, IsLinkWellMade, bound_arcs}

-- something holds of each place before this one and not of this one, of this many places
pub record IsFirstWithout (Holds : ℕ → Type 0) (count place : ℕ) : Type 0 where
  pub within : place < count
  pub without : Holds place → ⊥
  pub before : (k : ℕ) → k < place → Holds k

-- the rank at this place is below the number of nodes, and no node before has it
pub record IsNewRank (ranks : List ℕ) (place : ℕ) : Type 0 where
  pub in_range : slice_index ranks place < length ranks
  pub new : (k : ℕ) → k < place → slice_index ranks k ≢ slice_index ranks place

-- the link at this place comes after the one before it, if there is one
abbrev pub ComesNext : List Link → ℕ → Type 0
ComesNext links place = (k : ℕ) (d : Link) → k + 1 ≡ place → ComesBefore (slice_index_or links k d) (slice_index_or links place d)

-- the link at this place is well made
abbrev pub IsWellMadeAt : Hierarchy → ℕ → Type 0
IsWellMadeAt h place = (d : Link) → IsLinkWellMade h (slice_index_or h.links place d)

-- the bound is one that some graph of this many nodes can have, and counts the arcs that the version wants
abbrev pub IsBoundOf : Hierarchy → Type 0
IsBoundOf h = IsWithin h.bound (cost_of_arcs (length h.ranks - 1) (2 ^ 32 - 1)) × (arcs_of h.bound ≡ bound_arcs h.version (length h.ranks))

-- why these ranks, these links and this bound are refused
abbrev pub IsHierarchyRefusal : Hierarchy → HierarchyError → Type 0
IsHierarchyRefusal h TooManyNodes = 2 ^ 25 < length h.ranks
IsHierarchyRefusal h BadBound = IsBoundOf h → ⊥
IsHierarchyRefusal h (BadRank place) = IsFirstWithout (IsNewRank h.ranks) (length h.ranks) place
IsHierarchyRefusal h (LinkOutOfOrder place) = IsFirstWithout (ComesNext h.links) (length h.links) place
IsHierarchyRefusal h (BadLink place) = IsFirstWithout (IsWellMadeAt h) (length h.links) place
IsHierarchyRefusal h OutOfMemory = ⊤

-- The tests of a link

-- a link between two different ones of this many nodes, not free and not heavy
pub record IsAllowed (v : Version) (nodes : ℕ) (bound : Cost) (l : Link) : Type 0 where
  pub from_in : l.from < nodes
  pub to_in : l.to < nodes
  pub apart : l.from ≢ l.to
  pub counts : Counts v l
  pub within : IsWithin l.cost bound

-- a middle ranks below both ends of a link
pub record IsLow (ranks : List ℕ) (l : Link) (m : ℕ) : Type 0 where
  pub below_from : slice_index ranks m < slice_index ranks l.from
  pub below_to : slice_index ranks m < slice_index ranks l.to

-- two links, at these places, meet at a middle of a link, and cost together what it costs
pub record HaveSum (links : List Link) (l : Link) (m : ℕ) : Type 0 where
  pub first : ℕ
  pub second : ℕ
  pub first_at : IsLinkAt links l.from m first
  pub second_at : IsLinkAt links m l.to second
  pub sum : (d : Link) → l.cost ≡ (slice_index_or links first d).cost ⊕ (slice_index_or links second d).cost
