-- Books: what names one, and what its pen and its readers hold.
use Rattle.std.specs.Prelude.{ℕ, ◌≡◌, ◌<◌, List, [], length, map, slice_index, slice_index_or}
use Rattle.boxcar.specs.Table.{Shelves, Where, Shows}
use Rattle.atomic_table.specs.Seated.{TableId}
use Rattle.atomic_table.specs.declared.shared.Seat.{Seat}
use Rattle.ch_cost.specs.declared.cost.Cost.{Cost}
use Rattle.ch_cost.specs.Cost.{zero_cost}
use Rattle.ch_laws.specs.Rows.{Row}
use Rattle.ch_overlay.specs.Source.{IsBound}
use Rattle.ch_rowbook.specs.declared.words.KnownWords.{KnownWords}
use Rattle.ch_overlay.specs.declared.record.Record.{Record}
use Rattle.ch_overlay.specs.declared.source.Seen.{Seen}
use Rattle.ch_overlay.specs.Records.{Bears, recorded_row}
use Rattle.ch_rowbook.specs.Words.{pen_with, reader_with, width}

-- which book it is: its list of records and its words, the number of nodes, and the bound of the rows
pub record BookName : Type 0 where
  pub list : Shelves
  pub words : TableId
  pub nodes : ℕ
  pub bound : Cost

-- the answer is the book's record at its version, of one of its nodes
pub record IsOfBook (book : BookName) (s : Seen) : Type 0 where
  pub record_is : Bears book.list s
  pub within : s.node < book.nodes

-- names nothing
abbrev pub no_book : BookName
no_book = record {
  list = record { tag = []; buckets = [] };
  words = record { words = 0; slots = 0; views_name = 0; atom = 0; block = 0; offset = 0; slot_names = [] };
  nodes = 0;
  bound = zero_cost;
}

-- what a pen shows: the current version and row of each node, and the least version that it may give next
pub record PenView : Type 0 where
  pub versions : List ℕ
  pub rows : List Row
  pub next : ℕ

abbrev pub versions_of : List (Where Record) → List ℕ
versions_of tokens = map (λ (t : Where Record). t.index) tokens

abbrev pub rows_of : List (Where Record) → List Row
rows_of tokens = map (λ (t : Where Record). recorded_row t.value) tokens

abbrev pub pen_of : ℕ → List (Where Record) → PenView
pen_of next current = record { versions = versions_of current; rows = rows_of current; next = next }

-- the token is of a record of this node, below the next version
pub record IsOf (list : Shelves) (next x : ℕ) (t : Where Record) : Type 0 where
  pub shown : Shows list t
  pub node : t.value.node ≡ x
  pub below : t.index < next

-- this many tokens are of the nodes of their places
abbrev pub AreOf : Shelves → ℕ → ℕ → List (Where Record) → Type 0
AreOf list next nodes tokens = (x : ℕ) (d : Where Record) → x < nodes → IsOf list next x (slice_index_or tokens x d)

-- the pen's seat is the first, and knows each word
pub record IsPenSeat (book : BookName) (seat : Seat (Unit {0}) KnownWords) : Type 0 where
  pub table : seat.table_id ≡ book.words
  pub first : seat.id ≡ 0
  pub knows : seat.me ≡ (pen_with seat.me.0.versions, [])
  pub wide : length seat.me.0.versions ≡ width book.nodes
  pub limit : IsBound book.bound

-- a reader's seat knows a front
pub record IsReaderSeat (book : BookName) (seat : Seat (Unit {0}) KnownWords) : Type 0 where
  pub table : seat.table_id ≡ book.words
  pub knows : seat.me ≡ (reader_with seat.me.0.versions, [])
  pub wide : length seat.me.0.versions ≡ width book.nodes
  pub limit : IsBound book.bound

-- A pen knows each word, and its tokens are of the nodes' current records.
pub record PenKeeps (book : BookName) (seat : Seat (Unit {0}) KnownWords) (next : ℕ) (current : List (Where Record)) : Type 0 where
  pub seated : IsPenSeat book seat
  pub count : length current ≡ book.nodes
  pub words : (x : ℕ) → x < book.nodes → slice_index seat.me.0.versions x ≡ slice_index (versions_of current) x
  pub tokens : AreOf book.list next book.nodes current
