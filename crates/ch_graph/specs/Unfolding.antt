-- Links named by their places, and the laws on them: each represents one list of arcs.
use Rattle.std.specs.Prelude.{ℕ, ◌≡◌, ⊤, List, [], ◌∷◌, Some, Contains, slice_get}
use Rattle.std.specs.List.{AllZip}
use Rattle.ch_cost.specs.declared.cost.Cost.{Cost}
use Rattle.ch_graph.specs.declared.link.Link.{Link}
use Rattle.ch_graph.specs.declared.hierarchy.LinkId.{LinkId}
use Rattle.ch_graph.specs.Hierarchy.{Hierarchy, IsRiseFall, IsWellMade, Unfolds}

-- the link at a place
abbrev pub IsAt : Hierarchy → LinkId → Link → Type 0
IsAt h place l = slice_get h.links place.0 ≡ Some l

-- the links at these places, in order
abbrev pub AreAt : Hierarchy → List LinkId → List Link → Type 0
AreAt h = AllZip (IsAt h)

-- At each of the places is a link: the first leaves x, and each other leaves the node where the one before it came to.
abbrev pub Joined : Hierarchy → ℕ → List LinkId → Type 0
Joined h x [] = ⊤
Joined h x (place ∷ places) = (l : Link) × IsAt h place l × (l.from ≡ x) × Joined h l.to places

-- each link of a well made hierarchy unfolds, and to one list alone
abbrev pub LinksUnfold : Type 0
LinksUnfold = (h : Hierarchy) (l : Link) → IsWellMade h → Contains h.links l → (arcs : List Link) × Unfolds h l arcs × ((others : List Link) → Unfolds h l others → others ≡ arcs)

-- places name one list of links
abbrev pub PlacesNameLinks : Type 0
PlacesNameLinks = (h : Hierarchy) (places : List LinkId) (links others : List Link) → AreAt h places links → AreAt h places others → links ≡ others

-- the links of a rise-fall walk join
abbrev pub RiseFallJoins : Type 0
RiseFallJoins = (h : Hierarchy) (places : List LinkId) (links : List Link) (s t : ℕ) (c : Cost) → AreAt h places links → IsRiseFall h links s t c → Joined h s places
