use Rattle.std.proofs.Common.{◌-◌}
use Rattle.ch_graph.specs.Marks.{settled_count}
use Rattle.ch_graph.specs.Search.{IsSearchTo}
use Rattle.ch_graph.proofs.search.settle_to.Given as goal

abbrev pub invariant-nodes : goal.invariant-nodes
invariant-nodes l = IsSearchTo l.graph l.source l.target l.frontier

abbrev pub decreases-nodes : goal.decreases-nodes
decreases-nodes l = l.graph.nodes - settled_count l.frontier
