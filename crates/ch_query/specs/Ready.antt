-- What a search keeps of a hierarchy between calls, and what a query and its halves are of it.
use Rattle.std.specs.Prelude.{◌≡◌, List, length}
use Rattle.ch_cost.specs.Cost.{IsSummable}
use Rattle.ch_graph.specs.Hierarchy.{Hierarchy, IsWellMade}
use Rattle.ch_graph.specs.declared.mark.Mark.{Mark}
use Rattle.ch_query.specs.declared.label.Label.{Label}
use Rattle.ch_query.specs.declared.layout.Layout.{Layout}
use Rattle.ch_query.specs.declared.side.Side.TheVariants.{Rise, Fall}
use Rattle.ch_query.specs.declared.half.Half.{Half}
use Rattle.ch_query.specs.declared.query.Query.{Query}
use Rattle.ch_query.specs.Seeds.{AreSeeds}
use Rattle.ch_query.specs.Upward.{AreStepsOf}

-- the steps of either side, and a mark of either side for each node
pub record IsReady (h : Hierarchy) (layout : Layout) (up down : List (Mark Label)) : Type 0 where
  pub made : IsWellMade h
  pub rising : AreStepsOf h Rise layout.rising
  pub falling : AreStepsOf h Fall layout.falling
  pub ups : length up ≡ length h.ranks
  pub downs : length down ≡ length h.ranks

-- a half has the steps of its side, begins at nodes of the hierarchy, and its bound can be a summand
pub record IsHalf (half : Half) : Type 0 where
  pub made : IsWellMade half.hierarchy.now
  pub laid : AreStepsOf half.hierarchy.now half.side half.steps.now
  pub seeds : AreSeeds half.hierarchy.now half.seeds.now
  pub bound : IsSummable half.bound

-- the same of a query, whose halves are one of each side
pub record IsQuery (query : Query) : Type 0 where
  pub made : IsWellMade query.hierarchy.now
  pub rising : AreStepsOf query.hierarchy.now Rise query.layout.now.rising
  pub falling : AreStepsOf query.hierarchy.now Fall query.layout.now.falling
  pub starts : AreSeeds query.hierarchy.now query.starts.now
  pub ends : AreSeeds query.hierarchy.now query.ends.now
  pub bound : IsSummable query.bound
