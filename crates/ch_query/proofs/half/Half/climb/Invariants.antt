use Rattle.std.proofs.Common.{◌-◌, None, length}
use Rattle.ch_graph.specs.Marks.{settled_count}
use Rattle.ch_query.specs.Climbing.{AreListed}
use Rattle.ch_query.specs.Searching.{IsSearching, IsClimbing}
use Rattle.ch_query.proofs.half.Half.climb.Given as goal

abbrev pub invariant-turns : goal.invariant-turns
invariant-turns l = record {
  searching : IsSearching l.self.hierarchy.now l.self.side l.self.seeds.now l.self.bound l.marks;
  climbing : IsClimbing l.self.hierarchy.now l.self.side l.self.seeds.now l.self.bound None l.marks;
  listed : AreListed l.marks l.climbs.items;
}

abbrev pub decreases-turns : goal.decreases-turns
decreases-turns l = length l.self.hierarchy.now.ranks - settled_count l.marks
