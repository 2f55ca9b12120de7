-- When a ledger accepts a proposal: first by version numbers alone, and then by what the rows have.
use Rattle.std.specs.Prelude.{ℕ, ◌≡◌, ◌≢◌, List, ◌∷◌, ◌++◌, length, All}
use Rattle.ch_overlay.specs.declared.source.Seen.{Seen}
use Rattle.ch_overlay.specs.Source.{row_in}
use Rattle.ch_contract.specs.declared.error.CommitError.{CommitError}
use Rattle.ch_contract.specs.declared.error.CommitError.TheVariants.{Contracted, Stale}
use Rattle.ch_contract.specs.Ledger.{Ledger, IsLedger, IsNode, IsGone, AreLawful, row_now, version_now}
use Rattle.ch_contract.specs.Proposal.{Proposal, IsProposal}

-- By versions

-- the node is contracted already
abbrev pub IsContractedYet : Ledger → Proposal → Type 0
IsContractedYet l p = IsGone l p.node

-- the row was seen in another version than its node has now
pub record IsOld (l : Ledger) (s : Seen) : Type 0 where
  pub in_range : IsNode l s.node
  pub changed : s.version ≢ version_now l s.node

-- none of these rows was
abbrev pub NoneIsOld : Ledger → List Seen → Type 0
NoneIsOld l rows = All (λ s. IsOld l s → ⊥) rows

-- the first of these rows that was is this node's, seen in the one version and now in the other
pub record IsFirstOld (l : Ledger) (rows : List Seen) (node seen now : ℕ) : Type 0 where
  pub before : List Seen
  pub row : Seen
  pub after : List Seen
  pub among : rows ≡ before ++ row ∷ after
  pub earlier : NoneIsOld l before
  pub old : IsOld l row
  pub of_node : node ≡ row.node
  pub of_version : seen ≡ row.version
  pub current : now ≡ version_now l row.node

-- the node isn't contracted, and no row is old
pub record IsUpToDate (l : Ledger) (p : Proposal) : Type 0 where
  pub waits : IsContractedYet l p → ⊥
  pub current : NoneIsOld l p.rests_on

-- the node isn't contracted, and a row is old, the first of them this node's; this many contractions were made so far
pub record IsStale (l : Ledger) (p : Proposal) (node seen now front : ℕ) : Type 0 where
  pub waits : IsContractedYet l p → ⊥
  pub first : IsFirstOld l p.rests_on node seen now
  pub of_log : front ≡ length l.log

-- why a proposal isn't up to date
abbrev pub IsRefusal : Ledger → Proposal → CommitError → Type 0
IsRefusal l p Contracted = IsContractedYet l p
IsRefusal l p (Stale node seen now front) = IsStale l p node seen now front
IsRefusal l p _ = ⊥

-- By what the rows have

-- the row is the ledger's row of its node
pub record IsRowOf (l : Ledger) (s : Seen) : Type 0 where
  pub in_range : IsNode l s.node
  pub same : row_in s ≡ row_now l s.node

-- the proposal was made by rows that are the ledger's, under its bound
pub record Agrees (l : Ledger) (p : Proposal) : Type 0 where
  pub bound : p.bound ≡ l.overlay.bound
  pub rows : All (IsRowOf l) p.rests_on

-- what was proposed by a ledger's rows may be done to it
abbrev pub AgreementIsLawful : Type 0
AgreementIsLawful = (l : Ledger) (p : Proposal) → IsLedger l → IsProposal p → Agrees l p → AreLawful l p.node p.shortcuts

-- the row is the ledger's, with its version
pub record IsShown (l : Ledger) (s : Seen) : Type 0 where
  pub row : IsRowOf l s
  pub version : s.version ≡ version_now l s.node
