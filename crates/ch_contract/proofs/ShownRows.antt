-- The rows that a board shows can be relied on.
use Rattle.std.proofs.Common.{◌≡◌, ◌^◌, ◌<◌, length, sym, subst}
use Rattle.ch_cost.specs.declared.cost.Cost.{Cost}
use Rattle.ch_laws.specs.Theorems.{BoundsFit}
use Rattle.ch_laws.specs.Rows.{Row}
use Rattle.ch_overlay.specs.declared.source.Seen.{Seen}
use Rattle.ch_overlay.specs.Overlay.{Overlay, IsOverlay, IsSound, row_at}
use Rattle.ch_overlay.specs.Soundness.{sound_row, still_sound}
use Rattle.ch_overlay.specs.Source.{row_in, IsBound, IsSeenRow, NamesAlone}
use Rattle.ch_contract.specs.Ledger.{Ledger, IsLedger}

module _ (o : Overlay) (is : IsOverlay o) (s : Seen) (inside : s.node < length o.rows) (row_is : row_in s ≡ row_at o.rows s.node) where
  sound : IsSound (length o.rows) o.bound s.node (row_in s)
  sound = subst (λ (r : Row). IsSound (length o.rows) o.bound s.node r) (sym row_is) (sound_row o is s.node inside)

  -- the row of a node is one that can be relied on
  pub seen_row : IsSeenRow o.bound s
  seen_row = still_sound (length o.rows) (2 ^ 25) o.bound s.node (row_in s) is.few_nodes sound

  -- and names nodes alone
  pub names_nodes : NamesAlone (λ x. x < length o.rows) (row_in s)
  names_nodes = record { out = λ k d h. (sound.entries.out k d h).in_range; inn = λ k d h. (sound.entries.inn k d h).in_range }

-- the bound of a ledger is one that sources have
pub ledger_bound : BoundsFit → (l : Ledger) → IsLedger l → IsBound l.overlay.bound
ledger_bound bounds_fit l is = subst (λ (c : Cost). IsBound c) (sym is.bound) (bounds_fit l.graph is.graph)
