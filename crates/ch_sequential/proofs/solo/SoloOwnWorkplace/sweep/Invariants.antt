use Rattle.std.proofs.Common.{◌≡◌, length}
use Rattle.ch_sequential.specs.Solo.{AreGoneBelow}
use Rattle.ch_sequential.proofs.solo.SoloOwnWorkplace.sweep.Given as goal

abbrev pub invariant-nodes : goal.invariant-nodes
invariant-nodes g l = (l.nodes ≡ length l.solo.overlay.rows) × AreGoneBelow l.node l.solo
