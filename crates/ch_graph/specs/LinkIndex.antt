-- Where the links of each node begin, in a list of links in rising order of their ends.
use Rattle.std.specs.Prelude.{ℕ, ◌≡◌, ◌<◌, ◌≤◌, List, length, slice_index, slice_index_or}
use Rattle.ch_graph.specs.declared.link.Link.{Link}

-- the links before this place leave nodes below v, and those from there on v or nodes above it
pub record IsFirstFrom (links : List Link) (v place : ℕ) : Type 0 where
  pub within : place ≤ length links
  pub before : (k : ℕ) (d : Link) → k < place → (slice_index_or links k d).from < v
  pub behind : (k : ℕ) (d : Link) → place ≤ k → k < length links → v ≤ (slice_index_or links k d).from

-- The list gives for each node, as far as it goes, the place of the first link that leaves it or a node above it.
pub record IsIndexOf (links : List Link) (firsts : List ℕ) : Type 0 where
  pub first : (v : ℕ) → v < length firsts → IsFirstFrom links v (slice_index firsts v)

-- the links that leave x are those from the first of these places on and before the second
pub record IsPartOf (links : List Link) (x begin end : ℕ) : Type 0 where
  pub ordered : begin ≤ end
  pub within : end ≤ length links
  pub leave : (k : ℕ) (d : Link) → begin ≤ k → k < end → (slice_index_or links k d).from ≡ x
  pub whole : (k : ℕ) (d : Link) → k < length links → (slice_index_or links k d).from ≡ x → (begin ≤ k) × (k < end)

-- the order of links that leave one node: by the node that they come to
abbrev pub ComesToLower : Link → Link → Type 0
ComesToLower a b = a.to < b.to

-- the link at this place of the list comes to y
pub record IsHeadAt (links : List Link) (y place : ℕ) : Type 0 where
  pub within : place < length links
  pub to : (d : Link) → (slice_index_or links place d).to ≡ y

-- the link that comes to y, if there is one, is at one of these places
pub record IsHeadWithin (links : List Link) (y begin end : ℕ) : Type 0 where
  pub ordered : begin ≤ end
  pub within : end ≤ length links
  pub holds : (place : ℕ) → IsHeadAt links y place → (begin ≤ place) × (place < end)
