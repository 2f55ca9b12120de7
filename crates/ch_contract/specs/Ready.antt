-- New rows of a contraction that are made before it is committed.
use Rattle.std.specs.Prelude.{ℕ, ◌≡◌, ◌++◌, List, Some, IsSome, map, All}
use Rattle.ch_laws.specs.declared.shortcut.Shortcut.{Shortcut}
use Rattle.ch_laws.specs.Rows.{Row, Rises}
use Rattle.ch_overlay.specs.declared.source.Seen.{Seen}
use Rattle.ch_overlay.specs.Prepared.{Prepared, AreNamed, Fits, IsPrepared}
use Rattle.ch_overlay.specs.Source.{row_in, row_of}
use Rattle.ch_contract.specs.Ledger.{Ledger}
use Rattle.ch_contract.specs.Proposal.{Proposal}

-- the new rows, and the rows that were read for them beside those that the proposal rests on
pub record Ready : Type 0 where
  pub prepared : Prepared
  pub beside : List Seen

-- They were made for the contraction that is proposed, by the row of its node and those of all nodes that this one
-- names: the rows that the proposal rests on, or else those that were read beside them.
pub record IsReadyFor (p : Proposal) (r : Ready) : Type 0 where
  pub row : Row
  pub read : row_of p.rests_on p.node ≡ Some row
  pub near : List (ℕ × Row)
  pub rows : All (λ a. row_of (p.rests_on ++ r.beside) a.0 ≡ Some a.1) near
  pub named : AreNamed row (map (λ a. a.0) near)
  pub made : IsPrepared p.node row near p.shortcuts r.prepared

-- they are those of this contraction of the ledger, made by its rows
abbrev pub FitsLedger : Ledger → ℕ → List Shortcut → Prepared → Type 0
FitsLedger l node put p = (p.node ≡ node) × Fits l.overlay put p

-- one of the answers is of each of these nodes; contracts of private functions alone cite what follows
abbrev pub AreAnswered : List Seen → List ℕ → Type 0
AreAnswered seen nodes = All (λ x. IsSome (row_of seen x)) nodes

-- the lists of each row rise
abbrev pub RowsRise : List Seen → Type 0
RowsRise seen = All (λ s. Rises (row_in s).out × Rises (row_in s).inn) seen
