use Rattle.std.proofs.Common.{ℕ, ◌≡◌, ◌<◌, ◌≤◌, length}
use Rattle.ch_cost.specs.Cost.{◌⊕◌, of_weight}
use Rattle.ch_graph.specs.Marks.{mark, IsAtMost}
use Rattle.ch_graph.specs.Outgoing.{road_at, IsLastFrom}
use Rattle.ch_graph.specs.Search.{own_cost, IsOpenedFrom}
use Rattle.ch_graph.proofs.LastArcs.{places_to}
use Rattle.ch_graph.proofs.search.follow.Given as goal

-- the arcs from a place on are followed, and next is the last of the node before that place
abbrev pub invariant-arcs : goal.invariant-arcs
invariant-arcs l = record {
  opened : IsOpenedFrom l.graph l.fn.reached.node l.cost l.initial.frontier l.frontier;
  from : ℕ;
  within : from ≤ length l.graph.arcs;
  next : IsLastFrom l.graph.arcs l.fn.reached.node from l.next;
  followed : (k : ℕ) → from ≤ k → k < length l.graph.arcs → (road_at l.graph.arcs k).from ≡ l.fn.reached.node → IsAtMost own_cost (mark l.frontier (road_at l.graph.arcs k).to) (l.cost ⊕ of_weight (road_at l.graph.arcs k).weight);
}

abbrev pub decreases-arcs : goal.decreases-arcs
decreases-arcs l = places_to l.next
