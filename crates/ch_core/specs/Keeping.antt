-- What holds of every world.
use Rattle.std.specs.Prelude.{ℕ, ◌≡◌, ◌^◌, ◌<◌, Some, length, All}
use Rattle.ch_cost.specs.declared.cost.Cost.{Cost}
use Rattle.ch_laws.specs.Rows.{Row}
use Rattle.ch_overlay.specs.Source.{IsBound}
use Rattle.ch_overlay.specs.Overlay.{Overlay, IsSound}
use Rattle.ch_contract.specs.Ledger.{IsLedger, IsNode, row_now, version_now}
use Rattle.ch_core.specs.World.{World, RowVersion, View, Standing, stands_at, has, IsIn}

-- the row can be relied on, of one of the nodes
abbrev pub IsSoundVersion : Overlay → RowVersion → Type 0
IsSoundVersion o v = IsSound (length o.rows) o.bound v.node v.row

-- The rows are those that the log leads to from the graph. The book has each current row at its current version, and
-- what each worker read at the version that it read.
pub record IsWorld (w : World) : Type 0 where
  pub ledger : IsLedger w.ledger
  pub bound : IsBound w.ledger.overlay.bound
  pub few_workers : length w.views < 2 ^ 32
  pub current : (x : ℕ) → IsNode w.ledger x → IsIn w.book x (version_now w.ledger x) (row_now w.ledger x)
  pub views : (k x : ℕ) (s : Standing) → has w k x ≡ Some s → IsIn w.book x s.version s.row
  pub sound : All (IsSoundVersion w.ledger.overlay) w.book

-- what a worker sees: its view, and the bound of the graph
pub record Sight : Type 0 where
  pub view : View
  pub bound : Cost

-- the bound is one, and each row can be relied on
pub record IsSight (s : Sight) : Type 0 where
  pub limit : IsBound s.bound
  pub rows : (x : ℕ) (t : Standing) → stands_at s.view x ≡ Some t → IsSound (2 ^ 25) s.bound x t.row
