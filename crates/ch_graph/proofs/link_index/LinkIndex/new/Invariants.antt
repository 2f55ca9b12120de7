use Rattle.std.proofs.Common.{◌≡◌, ◌+◌, ◌<◌, ◌≤◌, ℕ, length, slice_index, get_or}
use Rattle.ch_graph.specs.declared.link.Link.{Link}
use Rattle.ch_graph.specs.LinkIndex.{IsFirstFrom}
use Rattle.ch_graph.proofs.link_index.LinkIndex.new.Given as goal

abbrev pub invariant-nodes : goal.invariant-nodes
invariant-nodes l = record {
  count : length l.firsts.items ≡ l.nodes + 1;
  within : l.place ≤ length l.links;
  before : (k : ℕ) (d : Link) → k < l.place → (get_or l.links k d).from < l.node;
  done : (v : ℕ) → v < l.node → IsFirstFrom l.links v (slice_index l.firsts.items v);
}
