use Rattle.std.proofs.Common.{map, take}
use Rattle.std.specs.Arc.{arc_value}
use Rattle.ch_overlay.specs.Placing.{AreChanged}
use Rattle.ch_overlay.proofs.prepared.changed_rows.Given as goal

abbrev pub invariant-loop-node : goal.invariant-loop-node
invariant-loop-node l =
    AreChanged l.gone (map (λ a. (a.0, a.1.now)) l.near) l.out.placed.items l.inn.placed.items (take l.node-index (map (λ a. a.0) l.near)) (map (λ a. (a.0, arc_value a.1)) l.rows.items)
