use Rattle.std.proofs.Common.{◌≡◌, length, take}
use Rattle.ch_check.proofs.checking.contract_all.Given as goal

abbrev pub invariant-order : goal.invariant-order
invariant-order g l = record {
  order : l.replay.overlay.order ≡ take l.node-index l.order;
  graph : l.replay.graph ≡ l.initial.replay.graph;
  nodes : length l.replay.overlay.rows ≡ length l.initial.replay.overlay.rows;
}
