-- Contraction hierarchies: their least rise-fall walks, and the arcs that a link represents.
use Rattle.std.specs.Prelude.{ℕ, ◌≡◌, ◌≢◌, ◌-◌, ◌^◌, ◌<◌, ◌≤◌, ◌⊎◌, ◌↔◌, List, [], ◌∷◌, ◌++◌, length, Option, Some, None, All, AllPairs, Contains, slice_index, slice_index_or}
use Rattle.ch_cost.specs.declared.cost.Cost.{Cost}
use Rattle.ch_cost.specs.Cost.{zero_cost, ◌⊕◌, cost_of_arcs, length_of, arcs_of, IsWithin, IsNoLonger}
use Rattle.ch_graph.specs.declared.link.Link.{Link}
use Rattle.ch_graph.specs.declared.version.Version.{Version}
use Rattle.ch_graph.specs.declared.version.Version.TheVariants.{One, Two}
use Rattle.ch_graph.specs.Walk.{IsLeastOrNone}
use Rattle.ch_graph.specs.Graph.{Graph, ArcOf, IsDistance}
pub mod Chains

-- the version, the rank of each node, the links, and the greatest length that a query returns
pub record Hierarchy : Type 0 where
  pub version : Version
  pub ranks : List ℕ
  pub links : List Link
  pub bound : Cost

-- the hierarchy of these
abbrev pub hierarchy_of : Version → List ℕ → List Link → Cost → Hierarchy
hierarchy_of version ranks links bound = record { version = version; ranks = ranks; links = links; bound = bound }

-- the rank of a node
abbrev pub rank_of : Hierarchy → ℕ → ℕ
rank_of h x = slice_index h.ranks x

-- Links of one kind that join, each beginning where the last one ended; their ends, and what they cost together.
pub data Chain (IsKind : Link → Type 0) : List Link → ℕ → ℕ → Cost → Type 0 where
  nothing : {x : ℕ} → Chain IsKind [] x x zero_cost
  then : {l : Link} {ls : List Link} {x z : ℕ} {d : Cost} → IsKind l → l.from ≡ x → Chain IsKind ls l.to z d → Chain IsKind (l ∷ ls) x z (l.cost ⊕ d)

-- Rise-fall walks

-- a link that goes up in rank
pub record IsRising (h : Hierarchy) (l : Link) : Type 0 where
  pub among : Contains h.links l
  pub rises : rank_of h l.from < rank_of h l.to

-- a link that goes down in rank
pub record IsFalling (h : Hierarchy) (l : Link) : Type 0 where
  pub among : Contains h.links l
  pub falls : rank_of h l.to < rank_of h l.from

-- The links lead from s to t at cost c: first up to a top and then down. Either part may be empty.
pub record IsRiseFall (h : Hierarchy) (links : List Link) (s t : ℕ) (c : Cost) : Type 0 where
  pub rise : List Link
  pub fall : List Link
  pub top : ℕ
  pub up : Cost
  pub down : Cost
  pub parts : links ≡ rise ++ fall
  pub rises : Chain (IsRising h) rise s top up
  pub falls : Chain (IsFalling h) fall top t down
  pub sum : c ≡ up ⊕ down

-- some rise-fall walk from s to t costs c, and its length is at most the bound
pub record HasRiseFall (h : Hierarchy) (s t : ℕ) (c : Cost) : Type 0 where
  pub links : List Link
  pub leads : IsRiseFall h links s t c
  pub short : IsNoLonger c h.bound

-- the least cost of such a walk, or none where there is none
abbrev pub IsValue : Hierarchy → ℕ → ℕ → Option Cost → Type 0
IsValue h s t = IsLeastOrNone (HasRiseFall h s t)

-- Unfolding

-- a link of the hierarchy from x to y
pub record IsLink (h : Hierarchy) (x y : ℕ) (l : Link) : Type 0 where
  pub among : Contains h.links l
  pub from : l.from ≡ x
  pub to : l.to ≡ y

-- The links without a middle that a link represents: itself, or those of its first half and then its second.
pub data Unfolds (h : Hierarchy) : Link → List Link → Type 0 where
  whole : {l : Link} → l.middle ≡ None → Unfolds h l (l ∷ [])
  halves : {l a b : Link} {m : ℕ} {ls rs : List Link} → l.middle ≡ Some m → IsLink h l.from m a → IsLink h m l.to b → Unfolds h a ls → Unfolds h b rs → Unfolds h l (ls ++ rs)

-- the same for each of a list of links, in order
pub data UnfoldsAll (h : Hierarchy) : List Link → List Link → Type 0 where
  done : UnfoldsAll h [] []
  more : {l : Link} {ls us vs : List Link} → Unfolds h l us → UnfoldsAll h ls vs → UnfoldsAll h (l ∷ ls) (us ++ vs)

-- Well made hierarchies

-- the two halves of a link: they meet at its middle, which ranks below both ends, and cost together what it costs
pub record AreHalves (h : Hierarchy) (l : Link) (m : ℕ) (a b : Link) : Type 0 where
  pub first : IsLink h l.from m a
  pub second : IsLink h m l.to b
  pub sum : l.cost ≡ a.cost ⊕ b.cost
  pub below_from : rank_of h m < rank_of h l.from
  pub below_to : rank_of h m < rank_of h l.to

-- What differs between the versions is what costs count. In version 2 a link counts some arcs, exactly one where it has
-- no middle, and the bound one arc fewer than there are nodes.
pub record CountsArcs (l : Link) : Type 0 where
  pub some : 0 < arcs_of l.cost
  pub one : l.middle ≡ None → arcs_of l.cost ≡ 1

-- In version 1 a link weighs something, and no cost counts arcs.
pub record CountsWeight (l : Link) : Type 0 where
  pub some : 0 < length_of l.cost
  pub none : arcs_of l.cost ≡ 0

abbrev pub Counts : Version → Link → Type 0
Counts One l = CountsWeight l
Counts Two l = CountsArcs l

-- how many arcs the bound counts, over this many nodes
abbrev pub bound_arcs : Version → ℕ → ℕ
bound_arcs One nodes = 0
bound_arcs Two nodes = nodes - 1

-- the number of a version
abbrev pub version_number : Version → ℕ
version_number One = 1
version_number Two = 2

-- a link between two different nodes, not free and not heavy, which has halves where it has a middle
pub record IsLinkWellMade (h : Hierarchy) (l : Link) : Type 0 where
  pub from_in : l.from < length h.ranks
  pub to_in : l.to < length h.ranks
  pub apart : l.from ≢ l.to
  pub counts : Counts h.version l
  pub within : IsWithin l.cost h.bound
  pub middle : (m : ℕ) → l.middle ≡ Some m → (a : Link) × (b : Link) × AreHalves h l m a b

-- the order of links: by the node that they leave, and then by the one that they come to
abbrev pub ComesBefore : Link → Link → Type 0
ComesBefore a b = (a.from < b.from) ⊎ ((a.from ≡ b.from) × (a.to < b.to))

-- the link at this place of the list leads from x to y
pub record IsLinkAt (links : List Link) (x y place : ℕ) : Type 0 where
  pub within : place < length links
  pub from : (d : Link) → (slice_index_or links place d).from ≡ x
  pub to : (d : Link) → (slice_index_or links place d).to ≡ y

-- A hierarchy that a file can hold: the ranks are the numbers below the number of nodes, each once; the links are
-- in order, at most one for each pair; and the bound is one that some graph of this many nodes can have.
pub record IsWellMade (h : Hierarchy) : Type 0 where
  pub few_nodes : length h.ranks ≤ 2 ^ 25
  pub bound : IsWithin h.bound (cost_of_arcs (length h.ranks - 1) (2 ^ 32 - 1))
  pub bound_arcs : arcs_of h.bound ≡ bound_arcs h.version (length h.ranks)
  pub in_range : All (λ r. r < length h.ranks) h.ranks
  pub once : AllPairs (λ q r. q ≢ r) h.ranks
  pub sorted : AllPairs ComesBefore h.links
  pub links : All (IsLinkWellMade h) h.links

-- Right hierarchies

-- the graph has an arc with the link's ends and cost
abbrev pub IsArcOf : Graph → Link → Type 0
IsArcOf g l = ArcOf g l.from l.to l.cost

-- The hierarchy answers as the graph does: its values are the distances, and each link represents arcs of the graph
-- that lead from its one end to the other and cost together what it costs.
pub record IsRight (g : Graph) (h : Hierarchy) : Type 0 where
  pub nodes : length h.ranks ≡ g.nodes
  pub value : (s t : ℕ) (c : Option Cost) → s < g.nodes → t < g.nodes → IsDistance g s t c ↔ IsValue h s t c
  pub unfolds : (l : Link) → Contains h.links l → (arcs : List Link) × Unfolds h l arcs
  pub unfolded : (l : Link) (arcs : List Link) → Contains h.links l → Unfolds h l arcs → Chain (IsArcOf g) arcs l.from l.to l.cost

-- Laws

-- two nodes have one value, or none
abbrev pub ValueIsUnique : Type 0
ValueIsUnique = (h : Hierarchy) (s t : ℕ) (a b : Option Cost) → IsValue h s t a → IsValue h s t b → a ≡ b
