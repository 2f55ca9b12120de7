-- The nodes of a route whose links are unfolded.
use Rattle.std.specs.Prelude.{ℕ, ◌≡◌, ◌-◌, ◌<◌, ◌≤◌, List, ◌∷◌, length, map, codes}
use Rattle.ch_graph.specs.declared.link.Link.{Link}
use Rattle.ch_graph.specs.declared.hierarchy.LinkId.{LinkId}
use Rattle.ch_graph.specs.Hierarchy.{Hierarchy, UnfoldsAll}
use Rattle.ch_graph.specs.Unfolding.{AreAt}
use Rattle.ch_unpack.specs.declared.error.UnpackError.{UnpackError}
use Rattle.ch_unpack.specs.declared.error.UnpackError.TheVariants.{OutOfMemory, TooLong}

-- the links at these places unfold to these arcs
pub record Unfolded (h : Hierarchy) (places : List LinkId) (arcs : List Link) : Type 0 where
  pub links : List Link
  pub are_at : AreAt h places links
  pub unfolds : UnfoldsAll h links arcs

-- the nodes are x and then the heads of the arcs that the links at these places unfold to, which are fewer than the
-- nodes of the hierarchy
pub record IsUnpacked (h : Hierarchy) (x : ℕ) (places : List LinkId) (nodes : List ℕ) : Type 0 where
  pub arcs : List Link
  pub unfolded : Unfolded h places arcs
  pub few : length arcs ≤ length h.ranks - 1
  pub in_order : nodes ≡ x ∷ map (λ (l : Link). l.to) arcs

-- the links at these places unfold to more arcs than a route without a repeated node has
pub record IsTooLong (h : Hierarchy) (places : List LinkId) : Type 0 where
  pub arcs : List Link
  pub unfolded : Unfolded h places arcs
  pub many : length h.ranks - 1 < length arcs

-- the variant's name
abbrev pub error_name : UnpackError → List ℕ
error_name OutOfMemory = codes "OutOfMemory"
error_name TooLong = codes "TooLong"
