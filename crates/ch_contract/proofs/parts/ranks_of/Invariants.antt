use Rattle.std.proofs.Common.{◌≡◌, ◌<◌, ℕ, Some, length, slice_index}
use Rattle.ch_overlay.specs.Overlay.{row_at}
use Rattle.ch_contract.proofs.parts.ranks_of.Given as goal

abbrev pub invariant-loop-node : goal.invariant-loop-node
invariant-loop-node l = record {
  nodes : l.nodes ≡ length l.overlay.rows;
  count : length l.ranks.items ≡ l.node;
  each : (x : ℕ) → x < l.node → (row_at l.overlay.rows x).rank ≡ Some (slice_index l.ranks.items x);
}
