-- Links by their places in a hierarchy.
use Rattle.std.specs.Prelude.{ℕ, List, None, slice_index_or}
use Rattle.ch_cost.specs.declared.cost.Cost.{Cost}
use Rattle.ch_cost.specs.Cost.{zero_cost}
use Rattle.ch_graph.specs.declared.link.Link.{Link}
use Rattle.ch_graph.specs.declared.hierarchy.LinkId.{LinkId}
use Rattle.ch_graph.specs.Hierarchy.{Hierarchy, IsRiseFall}
use Rattle.ch_graph.specs.Unfolding.{AreAt}

-- the link at a place; past the end, a link of no meaning
abbrev pub link_at : Hierarchy → ℕ → Link
link_at h k = slice_index_or h.links k (record { from = 0; to = 0; cost = zero_cost; middle = None })

-- the links at these places are a rise-fall walk from s to t, at cost c
pub record IsRiseFallAt (h : Hierarchy) (places : List LinkId) (s t : ℕ) (c : Cost) : Type 0 where
  pub links : List Link
  pub are_at : AreAt h places links
  pub leads : IsRiseFall h links s t c
