-- What each link represents, in a list of links: where its halves are.
use Rattle.std.specs.Prelude.{ℕ, ◌≡◌, ◌<◌, ◌==◌, List, length, Some, None, slice_index_or, if◌then◌else◌}
use Rattle.ch_graph.specs.declared.link.Link.{Link}
use Rattle.ch_graph.specs.declared.hierarchy.LinkId.{LinkId}
use Rattle.ch_graph.specs.declared.link_halves.Parts.{Parts}
use Rattle.ch_graph.specs.declared.link_halves.Parts.TheVariants.{Arc, Shortcut}
use Rattle.ch_graph.specs.declared.link_halves.KeptHalves.{KeptHalves}
use Rattle.ch_graph.specs.Hierarchy.{IsLinkAt}

-- the links at these places are the halves of a link: they meet at its middle
pub record AreHalvesAt (links : List Link) (l : Link) (first second : LinkId) : Type 0 where
  pub middle : ℕ
  pub by_way : l.middle ≡ Some middle
  pub first_at : IsLinkAt links l.from middle first.0
  pub second_at : IsLinkAt links middle l.to second.0

-- a link is an arc to this node, or has its halves at these places
abbrev pub ArePartsOf : List Link → Link → Parts → Type 0
ArePartsOf links l (Arc to) = (l.middle ≡ None) × (l.to ≡ to)
ArePartsOf links l (Shortcut first second) = AreHalvesAt links l first second

-- what is kept of the link at a place: for an arc its own place and the node that it comes to
abbrev pub parts_in : ℕ → KeptHalves → Parts
parts_in place kept = if kept.first == place then Arc kept.last else Shortcut (record { 0 = kept.first }) (record { 0 = kept.last })

-- The list says of each link, as far as it goes, what it represents.
pub record AreHalvesOf (links : List Link) (kept : List KeptHalves) : Type 0 where
  pub each : (k : ℕ) (d : Link) (e : KeptHalves) → k < length kept → ArePartsOf links (slice_index_or links k d) (parts_in k (slice_index_or kept k e))
