-- Where a check ended, and what shows that a hierarchy isn't right.
use Rattle.std.specs.Prelude.{ℕ, ◌≢◌, Option, Some, None}
use Rattle.ch_cost.specs.declared.cost.Cost.{Cost}
use Rattle.ch_graph.specs.Graph.{Graph, IsDistance}
use Rattle.ch_graph.specs.Hierarchy.{Hierarchy, IsValue}
use Rattle.ch_check.specs.declared.error.CheckError.{CheckError}
use Rattle.ch_check.specs.declared.error.CheckError.TheVariants.{Way, Link}

-- the distance from s to t by the hierarchy isn't that in the graph
pub record AreApart (g : Graph) (h : Hierarchy) (s t : ℕ) : Type 0 where
  pub value : Option Cost
  pub distance : Option Cost
  pub by_hierarchy : IsValue h s t value
  pub by_graph : IsDistance g s t distance
  pub differ : value ≢ distance

-- the nodes at which a check ended, if it ended at such
abbrev pub pair_of : CheckError → Option (ℕ × ℕ)
pair_of (Way via from to) = Some (from, to)
pair_of (Link from to) = Some (from, to)
pair_of error = None
