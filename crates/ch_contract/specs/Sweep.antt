-- The contraction of all nodes of a ledger, by rising number.
use Rattle.std.specs.Prelude.{ℕ, ◌≡◌, List, ◌++◌, [], ◌∷◌, map, ◌⊎◌}
use Rattle.ch_graph.specs.Limits.{bound_of}
use Rattle.ch_laws.specs.declared.shortcut.Shortcut.{Shortcut}
use Rattle.ch_laws.specs.Contraction.{Contraction, Run, IsAlive, IsOver}
use Rattle.ch_overlay.specs.Overlay.{state_of}
use Rattle.ch_contract.specs.declared.contraction.Receipt.{Receipt}
use Rattle.ch_contract.specs.Ledger.{Ledger, IsContracted, receipt_of, alive_nodes}

-- These nodes were contracted, one after the other: their entries follow the old ones in the log, and record the
-- lawful contractions that lead from the old rows to the new ones.
pub record AreContracted (old : Ledger) (nodes : List ℕ) (entries : List Contraction) (new : Ledger) : Type 0 where
  pub graph : new.graph ≡ old.graph
  pub log : new.log ≡ old.log ++ entries
  pub of_nodes : map (λ e. e.node) entries ≡ nodes
  pub run : Run (bound_of old.graph) (state_of old.overlay) entries (state_of new.overlay)

-- each node that wasn't contracted was, by rising number, and its receipt was returned
pub record IsSwept (old : Ledger) (receipts : List Receipt) (new : Ledger) : Type 0 where
  pub entries : List Contraction
  pub contracted : AreContracted old (alive_nodes old) entries new
  pub handed : receipts ≡ map receipt_of entries
  pub over : IsOver (state_of new.overlay)

-- the first of them were
pub record IsPartlySwept (old new : Ledger) : Type 0 where
  pub entries : List Contraction
  pub nodes : List ℕ
  pub left : List ℕ
  pub contracted : AreContracted old nodes entries new
  pub first : alive_nodes old ≡ nodes ++ left

-- one node was, if it wasn't contracted before; contracts of private functions alone cite what follows
pub record IsTaken (old : Ledger) (node : ℕ) (before : List Receipt) (new : Ledger) (after : List Receipt) : Type 0 where
  pub alive : IsAlive (state_of old.overlay) node
  pub put : List Shortcut
  pub receipt : Receipt
  pub contracted : IsContracted old node put receipt new
  pub handed : after ≡ before ++ receipt ∷ []

pub record IsPassed (old : Ledger) (node : ℕ) (before : List Receipt) (new : Ledger) (after : List Receipt) : Type 0 where
  pub gone : IsAlive (state_of old.overlay) node → ⊥
  pub same : new ≡ old
  pub nothing : after ≡ before

abbrev pub IsVisited : Ledger → ℕ → List Receipt → Ledger → List Receipt → Type 0
IsVisited old node before new after = IsTaken old node before new after ⊎ IsPassed old node before new after
