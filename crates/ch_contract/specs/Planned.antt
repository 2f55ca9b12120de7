-- A contraction that is worked out and not entered yet.
use Rattle.std.specs.Prelude.{ℕ, ◌≡◌, ◌<◌, List, length, map, drop, All, AllPairs}
use Rattle.ch_laws.specs.declared.shortcut.Shortcut.{Shortcut}
use Rattle.ch_laws.specs.Contraction.{Contraction}
use Rattle.ch_laws.specs.Rows.{Row}
use Rattle.ch_overlay.specs.Change.{Change, IsChange}
use Rattle.ch_contract.specs.Ledger.{Ledger, AreLawful, versions_now}

-- the new rows, and the entry for the log
pub record Planned : Type 0 where
  pub change : Change
  pub entry : Contraction

-- this is the contraction of the node that puts these shortcuts in, by the rows of the ledger
pub record IsPlanned (l : Ledger) (node : ℕ) (put : List Shortcut) (p : Planned) : Type 0 where
  pub lawful : AreLawful l node put
  pub change : IsChange l.overlay put p.change
  pub of_node : p.change.node ≡ node
  pub entry_node : p.entry.node ≡ node
  pub entry_rank : p.entry.rank ≡ length l.overlay.order
  pub entry_neighbours : p.entry.neighbours ≡ map (λ (a : ℕ × Row). a.0) (drop 1 p.change.rows)
  pub entry_shortcuts : p.entry.shortcuts ≡ length put

-- it was planned by the ledger as it is
abbrev pub WasPlanned : Ledger → Planned → Type 0
WasPlanned l p = (node : ℕ) × (put : List Shortcut) × IsPlanned l node put p

-- versions that the new rows may get: one for each, rising, and above all that were given so far
pub record AreNewVersions (l : Ledger) (p : Planned) (versions : List ℕ) : Type 0 where
  pub count : length versions ≡ length p.change.rows
  pub rising : AllPairs (λ a b. a < b) versions
  pub above : All (λ a. All (λ b. a < b) versions) (versions_now l)
