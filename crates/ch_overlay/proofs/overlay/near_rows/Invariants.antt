use Rattle.std.proofs.Common.{◌≡◌, All, map, take}
use Rattle.std.specs.Arc.{arc_value}
use Rattle.ch_overlay.specs.Overlay.{row_at}
use Rattle.ch_overlay.proofs.overlay.near_rows.Given as goal

abbrev pub invariant-loop-node : goal.invariant-loop-node
invariant-loop-node l = (map (λ a. a.0) l.near.items ≡ take l.node-index l.nodes) × All (λ a. a.1.now ≡ row_at (map arc_value l.rows) a.0) l.near.items
