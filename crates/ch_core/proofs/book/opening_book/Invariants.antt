use Rattle.std.proofs.Common.{◌≡◌, ◌<◌, ℕ, length}
use Rattle.ch_overlay.specs.Overlay.{row_at}
use Rattle.ch_core.specs.World.{IsIn}
use Rattle.ch_core.proofs.book.opening_book.Given as goal

abbrev pub invariant-nodes : goal.invariant-nodes
invariant-nodes l = record { many : length l.book.items ≡ l.node; rows : (x : ℕ) → x < l.node → IsIn l.book.items x x (row_at l.overlay.rows x) }
