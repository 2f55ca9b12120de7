use Rattle.std.proofs.Common.{ℕ, ◌<◌, slice_index_or}
use Rattle.ch_graph.specs.declared.road.Road.{Road}
use Rattle.ch_graph.specs.Limits.{IsRoad}
use Rattle.ch_graph.proofs.graph.first_bad.Given as goal

abbrev pub invariant-arcs : goal.invariant-arcs
invariant-arcs l = (k : ℕ) (d : Road) → k < l.place → IsRoad l.nodes (slice_index_or l.arcs k d)
