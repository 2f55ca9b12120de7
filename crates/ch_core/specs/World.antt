-- Workers read rows of a graph under contraction, as old as they like, and offer contractions by what they read. One
-- event comes after the other, in any order.
use Rattle.std.specs.Prelude.{ℕ, ◌≡◌, ◌≢◌, ◌<◌, ◌↔◌, nat_eq, List, [], ◌∷◌, ◌++◌, length, map, Option, Some, None, All, AllPairs, Contains, slice_index_or}
use Rattle.std.specs.List.{zip, range_with_len}
use Rattle.std.specs.Map.{lookup}
use Rattle.ch_graph.specs.Graph.{Graph}
use Rattle.ch_graph.specs.Limits.{bound_of}
use Rattle.ch_laws.specs.declared.shortcut.Shortcut.{Shortcut}
use Rattle.ch_laws.specs.Contraction.{State, IsNeighbour, Contraction}
use Rattle.ch_laws.specs.Rows.{Row, IsChanged}
use Rattle.ch_overlay.specs.declared.source.Seen.{Seen}
use Rattle.ch_overlay.specs.Source.{row_in}
use Rattle.ch_overlay.specs.Overlay.{Overlay, no_arcs, row_at, state_of}
use Rattle.ch_overlay.specs.Change.{puts}
use Rattle.ch_contract.specs.declared.contraction.Receipt.{Receipt}
use Rattle.ch_contract.specs.Ledger.{Ledger, IsStartLedger, receipt_of, row_now, version_now}
use Rattle.ch_contract.specs.Commit.{IsContractedYet}
use Rattle.ch_contract.specs.Proposal.{Proposal}

-- Worlds

-- a row that its node has or had
pub record RowVersion : Type 0 where
  pub node : ℕ
  pub row : Row

-- what a worker has of a node: the row that it read, and the number of that version
pub record Standing : Type 0 where
  pub version : ℕ
  pub row : Row

-- what a worker has of the nodes that it read
abbrev pub View : Type 0
View = List (ℕ × Standing)

-- The graph with its contractions so far, the book of all versions, where a version's number is its place, and a view
-- for each worker.
pub record World : Type 0 where
  pub ledger : Ledger
  pub book : List RowVersion
  pub views : List View

-- what the view has of a node
abbrev pub stands_at : View → ℕ → Option Standing
stands_at view x = lookup (nat_eq x) view

abbrev pub view_of : World → ℕ → View
view_of w worker = slice_index_or w.views worker []

-- what a worker has of a node
abbrev pub has : World → ℕ → ℕ → Option Standing
has w worker x = stands_at (view_of w worker) x

-- the version of this number is the node's, with this row
pub record IsIn (book : List RowVersion) (node version : ℕ) (row : Row) : Type 0 where
  pub within : version < length book
  pub here : slice_index_or book version (record { node = 0; row = no_arcs }) ≡ record { node = node; row = row }

-- At the start no node is contracted, node x has the version x, which opens the book, and no worker has read a row.
pub record IsOpening (g : Graph) (workers : ℕ) (w : World) : Type 0 where
  pub ledger : IsStartLedger g w.ledger
  pub many : length w.book ≡ g.nodes
  pub book : (x : ℕ) → x < g.nodes → IsIn w.book x x (row_now w.ledger x)
  pub as_many : length w.views ≡ workers
  pub nothing : (k x : ℕ) → has w k x ≡ None

-- Reads

-- a worker reads a version of a node: its view has this version of the node, whatever it had before
pub record IsRead (old : World) (worker node version : ℕ) (new : World) : Type 0 where
  pub in_range : worker < length old.views
  pub row : Row
  pub listed : IsIn old.book node version row
  pub ledger : new.ledger ≡ old.ledger
  pub book : new.book ≡ old.book
  pub workers : length new.views ≡ length old.views
  pub shown : has new worker node ≡ Some (record { version = version; row = row })
  pub others : (k x : ℕ) → ((k ≡ worker) × (x ≡ node) → ⊥) → has new k x ≡ has old k x

-- there is such a worker, and such a version of the node
pub record MayRead (w : World) (worker node version : ℕ) : Type 0 where
  pub in_range : worker < length w.views
  pub row : Row
  pub listed : IsIn w.book node version row

-- a worker forgets all that it read
pub record IsForgotten (old : World) (worker : ℕ) (new : World) : Type 0 where
  pub in_range : worker < length old.views
  pub ledger : new.ledger ≡ old.ledger
  pub book : new.book ≡ old.book
  pub workers : length new.views ≡ length old.views
  pub nothing : (x : ℕ) → has new worker x ≡ None
  pub others : (k x : ℕ) → k ≢ worker → has new k x ≡ has old k x

-- Offers

-- the row is in the view, with its version and its content
abbrev pub StandsIn : View → Seen → Type 0
StandsIn view s = stands_at view s.node ≡ Some (record { version = s.version; row = row_in s })

-- a worker may offer what was proposed under the bound of the graph by rows of its view
pub record MayOffer (w : World) (worker : ℕ) (p : Proposal) : Type 0 where
  pub in_range : worker < length w.views
  pub bound : p.bound ≡ bound_of w.ledger.graph
  pub rows : All (StandsIn (view_of w worker)) p.rests_on

-- the version of the row is its node's current one
abbrev pub IsCurrent : World → Seen → Type 0
IsCurrent w s = s.version ≡ version_now w.ledger s.node

-- The new rows where a node is contracted and these shortcuts are put in: first the row of the node, which gets its
-- rank and keeps its entries, and then the changed row of each neighbour, by rising number.
pub record AreNewRows (o : Overlay) (node : ℕ) (put : List Shortcut) (rows : List (ℕ × Row)) : Type 0 where
  pub others : List (ℕ × Row)
  pub listed : rows ≡ (node, record (row_at o.rows node) { rank = Some (length o.order) }) ∷ others
  pub rising : AllPairs (λ a b. a.0 < b.0) others
  pub neighbours : (x : ℕ) → Contains (map (λ a. a.0) others) x ↔ IsNeighbour (state_of o) node x
  pub changed : All (λ a. IsChanged put node a.0 (row_at o.rows a.0) a.1) others

-- the entry of the contraction in the log: its rank is the number of nodes that were contracted before
pub record IsEntryOf (s : State) (node : ℕ) (put : List Shortcut) (e : Contraction) : Type 0 where
  pub of_node : e.node ≡ node
  pub rank : e.rank ≡ length s.order
  pub rising : AllPairs (λ x y. x < y) e.neighbours
  pub neighbours : (x : ℕ) → Contains e.neighbours x ↔ IsNeighbour s node x
  pub shortcuts : e.shortcuts ≡ length put

-- the rows become current, by versions from the first one on, and the entry comes into the log
abbrev pub entered : Ledger → ℕ → ℕ → List (ℕ × Row) → Contraction → Ledger
entered l first node rows e = record {
  graph = l.graph;
  overlay = record {
    bound = l.overlay.bound;
    rows = puts l.overlay.rows rows;
    versions = puts l.overlay.versions (zip (map (λ a. a.0) rows) (range_with_len first (length rows)));
    order = l.overlay.order ++ node ∷ [];
  };
  log = l.log ++ e ∷ [];
}

abbrev pub version_of : ℕ × Row → RowVersion
version_of a = record { node = a.0; row = a.1 }

-- An offer is accepted: its node isn't contracted, and each version that it lists is current. Nothing else is asked.
pub record IsAccepted (old : World) (worker : ℕ) (p : Proposal) (receipt : Receipt) (new : World) : Type 0 where
  pub may : MayOffer old worker p
  pub waits : IsContractedYet old.ledger p → ⊥
  pub current : All (IsCurrent old) p.rests_on
  pub rows : List (ℕ × Row)
  pub are_new : AreNewRows old.ledger.overlay p.node p.shortcuts rows
  pub entry : Contraction
  pub is_entry : IsEntryOf (state_of old.ledger.overlay) p.node p.shortcuts entry
  pub handed : receipt ≡ receipt_of entry
  pub ledger : new.ledger ≡ entered old.ledger (length old.book) p.node rows entry
  pub book : new.book ≡ old.book ++ map version_of rows
  pub views : new.views ≡ old.views
