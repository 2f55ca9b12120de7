use Rattle.std.proofs.Common.{ℕ, ◌<◌, map}
use Rattle.std.specs.Arc.{arc_value}
use Rattle.ch_laws.specs.Rows.{row_at}
use Rattle.ch_overlay.specs.Records.{IsSoundRow}
use Rattle.test_kit.proofs.rows.are_sound.Given as goal

-- the rows so far can be relied on
abbrev pub invariant-loop-node : goal.invariant-loop-node
invariant-loop-node l = (x : ℕ) → x < l.node → IsSoundRow l.bound x (row_at (map arc_value l.rows) x)
