-- A graph under contraction: its rows, and the log of what was done.
use Rattle.std.specs.Prelude.{ℕ, ◌≡◌, ◌<◌, ◌≤◌, ◌^◌, Some, List, [], ◌∷◌, ◌++◌, length, filter, is_none, AllPairs, Contains, slice_index}
use Rattle.std.specs.List.{range_with_len, slice_get}
use Rattle.ch_graph.specs.Graph.{Graph}
use Rattle.ch_graph.specs.Limits.{IsGraph, bound_of}
use Rattle.ch_laws.specs.declared.shortcut.Shortcut.{Shortcut}
use Rattle.ch_laws.specs.Contraction.{Contraction, Step, IsReached, IsStart, IsPlan, IsWitnessed, contracted}
use Rattle.ch_laws.specs.Rows.{Row}
use Rattle.ch_overlay.specs.Overlay.{Overlay, IsOverlay, row_at, state_of}
use Rattle.ch_overlay.specs.Change.{AreRenewed}
use Rattle.ch_contract.specs.declared.contraction.Receipt.{Receipt}

-- the graph, the rows that its contractions so far lead to, and the entries of these contractions, first to last
pub record Ledger : Type 0 where
  pub graph : Graph
  pub overlay : Overlay
  pub log : List Contraction

-- x is one of its nodes
abbrev pub IsNode : Ledger → ℕ → Type 0
IsNode l x = x < length l.overlay.rows

-- the row of a node now, and the version of that row
abbrev pub row_now : Ledger → ℕ → Row
row_now l x = row_at l.overlay.rows x

abbrev pub version_now : Ledger → ℕ → ℕ
version_now l x = slice_index l.overlay.versions x

-- the versions of all nodes, by their numbers
abbrev pub versions_now : Ledger → List ℕ
versions_now l = l.overlay.versions

-- the node is contracted
abbrev pub IsGone : Ledger → ℕ → Type 0
IsGone l x = Contains l.overlay.order x

-- the entries of the log lead from the start of the graph to the rows
pub record IsLedger (l : Ledger) : Type 0 where
  pub graph : IsGraph l.graph
  pub overlay : IsOverlay l.overlay
  pub bound : l.overlay.bound ≡ bound_of l.graph
  pub reached : IsReached l.graph l.log (state_of l.overlay)

-- the ledger of a graph in which no node is contracted, each node's version being its number
pub record IsStartLedger (g : Graph) (l : Ledger) : Type 0 where
  pub graph : l.graph ≡ g
  pub log : l.log ≡ []
  pub start : IsStart g (state_of l.overlay)
  pub versions : versions_now l ≡ range_with_len 0 g.nodes

-- the entry of rank k is at k, and its neighbours rise
pub record IsLog (log : List Contraction) : Type 0 where
  pub few : length log ≤ 2 ^ 25
  pub ranks : (k : ℕ) (e : Contraction) → slice_get log k ≡ Some e → e.rank ≡ k
  pub rising : (k : ℕ) (e : Contraction) → slice_get log k ≡ Some e → AllPairs (λ x y. x < y) e.neighbours
  pub nodes : (k : ℕ) (e : Contraction) → slice_get log k ≡ Some e → e.node < 2 ^ 25

-- Shortcuts that a ledger may put in when it contracts a node: they are a plan, and each other pair by way of the
-- node is heavy or has a witness.
pub record AreLawful (l : Ledger) (node : ℕ) (put : List Shortcut) : Type 0 where
  pub plan : IsPlan l.overlay.bound (state_of l.overlay) node put
  pub witnessed : IsWitnessed l.overlay.bound (state_of l.overlay) node put

-- one lawful contraction of a ledger, by its entry in the log
pub record Contracts (old : Ledger) (e : Contraction) (new : Ledger) : Type 0 where
  pub graph : new.graph ≡ old.graph
  pub log : new.log ≡ old.log ++ e ∷ []
  pub step : Step (bound_of old.graph) (state_of old.overlay) e (state_of new.overlay)

-- the receipt for an entry
abbrev pub receipt_of : Contraction → Receipt
receipt_of e = record { node = e.node; rank = e.rank }

-- The ledger contracted this node, put these shortcuts in, and returned this receipt. The rows of the node and of its
-- neighbours have versions above all earlier ones now, and each other row has its own.
pub record IsContracted (old : Ledger) (node : ℕ) (put : List Shortcut) (receipt : Receipt) (new : Ledger) : Type 0 where
  pub entry : Contraction
  pub of_node : entry.node ≡ node
  pub of_shortcuts : entry.shortcuts ≡ length put
  pub handed : receipt ≡ receipt_of entry
  pub contracts : Contracts old entry new
  pub state : state_of new.overlay ≡ contracted (state_of old.overlay) node put
  pub versions : AreRenewed (node ∷ entry.neighbours) (versions_now old) (versions_now new)

-- the nodes that aren't contracted, rising
abbrev pub alive_nodes : Ledger → List ℕ
alive_nodes l = filter (λ x. is_none (row_now l x).rank) (range_with_len 0 (length l.overlay.rows))
