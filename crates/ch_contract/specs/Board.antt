-- What a board keeps: a ledger, and a book of its rows.
use Rattle.std.specs.Prelude.{ℕ, ◌≡◌, ◌<◌, List, length}
use Rattle.ch_graph.specs.Graph.{Graph}
use Rattle.ch_laws.specs.declared.shortcut.Shortcut.{Shortcut}
use Rattle.ch_overlay.specs.Change.{Change, IsChange}
use Rattle.ch_rowbook.specs.Books.{BookName, PenView}
use Rattle.ch_rowbook.specs.Showing.{GetsNoVersion, laid_row}
use Rattle.ch_contract.specs.Ledger.{Ledger, versions_now}

-- The ledger is of this graph, and the current rows and versions of the book are its own.
pub record IsInBook (graph : Graph) (book : BookName) (l : Ledger) (pen : PenView) : Type 0 where
  pub graph_is : l.graph ≡ graph
  pub nodes : book.nodes ≡ length l.overlay.rows
  pub bound : book.bound ≡ l.overlay.bound
  pub rows : pen.rows ≡ l.overlay.rows
  pub versions : pen.versions ≡ versions_now l

-- There is a record of one of the new rows of this contraction, at a place that is no version. Nothing says that the book's
-- list gave the place: `next` is any number.
pub record IsRefusedAPlace (book : BookName) (l : Ledger) (node : ℕ) (put : List Shortcut) : Type 0 where
  pub change : Change
  pub planned : IsChange l.overlay put change
  pub of_node : change.node ≡ node
  pub next : ℕ
  pub place : ℕ
  pub among : place < length change.rows
  pub refused : GetsNoVersion book.list next (laid_row change.rows) place
