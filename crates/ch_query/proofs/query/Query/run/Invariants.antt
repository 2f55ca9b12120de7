use Rattle.std.proofs.Common.{◌+◌, ◌-◌, length}
use Rattle.ch_graph.specs.Marks.{settled_count}
use Rattle.ch_query.specs.declared.side.Side.TheVariants.{Rise, Fall}
use Rattle.ch_query.specs.Searching.{IsSearching, IsClimbing}
use Rattle.ch_query.specs.Meeting.{IsBestSoFar, cost_of}
use Rattle.ch_query.proofs.query.Query.run.Given as goal

abbrev pub invariant-turns : goal.invariant-turns
invariant-turns l = record {
  rises : IsSearching l.self.hierarchy.now Rise l.self.starts.now l.self.bound l.up;
  falls : IsSearching l.self.hierarchy.now Fall l.self.ends.now l.self.bound l.down;
  up_climbing : IsClimbing l.self.hierarchy.now Rise l.self.starts.now l.self.bound (cost_of l.best) l.up;
  down_climbing : IsClimbing l.self.hierarchy.now Fall l.self.ends.now l.self.bound (cost_of l.best) l.down;
  best : IsBestSoFar l.self.bound l.up l.down l.best;
}

abbrev pub decreases-turns : goal.decreases-turns
decreases-turns l = (length l.self.hierarchy.now.ranks - settled_count l.up) + (length l.self.hierarchy.now.ranks - settled_count l.down)
