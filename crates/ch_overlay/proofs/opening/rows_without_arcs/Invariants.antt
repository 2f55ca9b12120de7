use Rattle.std.proofs.Common.{◌≡◌, length, replicate}
use Rattle.ch_overlay.specs.Overlay.{no_arcs}
use Rattle.ch_overlay.proofs.opening.rows_without_arcs.Given as goal

-- a count for each row
abbrev pub invariant-arcs : goal.invariant-arcs
invariant-arcs l = (length l.out.items ≡ l.count) × (length l.inn.items ≡ l.count)

abbrev pub invariant-rows : goal.invariant-rows
invariant-rows l = l.rows.items ≡ replicate l.at no_arcs
