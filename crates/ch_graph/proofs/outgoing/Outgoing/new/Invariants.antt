use Rattle.std.proofs.Common.{◌≡◌, ◌<◌, ℕ, length, get_or, None}
use Rattle.ch_graph.specs.Outgoing.{road_at, IsLastFrom}
use Rattle.ch_graph.proofs.outgoing.Outgoing.new.Given as goal

-- this many arcs are linked
abbrev pub invariant-loop-at : goal.invariant-loop-at
invariant-loop-at l = record {
  nodes : length l.last.items ≡ l.graph.nodes;
  arcs : length l.before.items ≡ length l.arcs;
  lasts : (v : ℕ) → v < l.graph.nodes → IsLastFrom l.arcs v l.at (get_or l.last.items v None);
  befores : (j : ℕ) → j < l.at → IsLastFrom l.arcs (road_at l.arcs j).from j (get_or l.before.items j None);
}
