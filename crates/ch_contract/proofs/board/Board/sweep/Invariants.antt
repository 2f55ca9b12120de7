use Rattle.std.proofs.Common.{◌≡◌, length}
use Rattle.ch_overlay.specs.Overlay.{IsOverlay}
use Rattle.ch_contract.proofs.SweptNodes.{IsSweptTo}
use Rattle.ch_contract.proofs.board.Board.sweep.Given as goal

abbrev pub invariant-nodes : goal.invariant-nodes
invariant-nodes g l = record {
  old : IsOverlay l.fn.self.overlay;
  count : l.nodes ≡ length l.fn.self.overlay.rows;
  swept : IsSweptTo l.fn.self l.node l.receipts.items l.self;
}
