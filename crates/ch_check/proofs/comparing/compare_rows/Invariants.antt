use Rattle.std.proofs.Common.{ℕ, ◌<◌}
use Rattle.ch_laws.specs.Rows.{row_at}
use Rattle.ch_check.specs.Comparing.{IsLinked}
use Rattle.ch_check.proofs.comparing.compare_rows.Given as goal

abbrev pub invariant-nodes : goal.invariant-nodes
invariant-nodes l = (x : ℕ) → x < l.node → IsLinked l.hierarchy.links x (row_at l.overlay.rows x)
