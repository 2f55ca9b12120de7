-- Records that may be shown one after the other.
use Rattle.std.specs.Prelude.{ℕ, ◌≡◌, ◌⊎◌, ◌+◌, ◌^◌, ◌<◌, ◌≤◌, List, [], ◌∷◌, All, length, slice_index_or}
use Rattle.boxcar.specs.Table.{Shelves, Where, Shows}
use Rattle.ch_laws.specs.Rows.{Row, no_arcs}
use Rattle.ch_overlay.specs.declared.record.Record.{Record}
use Rattle.ch_overlay.specs.Records.{recorded_row}
use Rattle.ch_rowbook.specs.Books.{versions_of}

-- a row and the node that it is of
abbrev pub of_node : ℕ → Row → ℕ × Row
of_node x r = (x, r)

-- the versions rise, from this one on, and end below that one
abbrev pub IsRising : ℕ → List ℕ → ℕ → Type 0
IsRising low [] high = low ≤ high
IsRising low (v ∷ vs) high = (low ≤ v) × IsRising (v + 1) vs high

-- The current versions are below all of these, which rise and were given so far.
pub record IsShowable (current : List ℕ) (next : ℕ) (versions : List ℕ) : Type 0 where
  pub low : ℕ
  pub below : All (λ v. v < low) current
  pub rising : IsRising low versions next

-- the next version is what it was, or the one behind a record of the list
abbrev pub IsNextOf : Shelves → ℕ → ℕ → Type 0
IsNextOf list old new = (new ≡ old) ⊎ ((there : Where Record) × Shows list there × (new ≡ there.index + 1))

-- the next version behind these, which were given one after the other
abbrev pub next_behind : ℕ → List ℕ → ℕ
next_behind next [] = next
next_behind next (v ∷ vs) = next_behind (v + 1) vs

-- a row of these, with its node
abbrev pub laid_row : List (ℕ × Row) → ℕ → ℕ × Row
laid_row rows k = slice_index_or rows k (of_node 0 no_arcs)

-- the list shows the record, which is of this node and row
pub record IsRecordOf (list : Shelves) (row : ℕ × Row) (t : Where Record) : Type 0 where
  pub shown : Shows list t
  pub is : of_node t.value.node (recorded_row t.value) ≡ row

-- There is a record of this row at a place that is no version: one below `next`, or the last that there is.
pub record HasNoVersion (list : Shelves) (next : ℕ) (row : ℕ × Row) : Type 0 where
  pub given : Where Record
  pub record_is : IsRecordOf list row given
  pub place : (given.index < next) ⊎ (given.index + 1 ≡ 2 ^ 64)

-- Of rows in turn, the k-th from 0 has a record at a place that is no version, and each before it has a record.
pub record GetsNoVersion (list : Shelves) (next : ℕ) (row : ℕ → ℕ × Row) (k : ℕ) : Type 0 where
  pub laid : List (Where Record)
  pub count : length laid ≡ k
  pub earlier : (j : ℕ) (d : Where Record) → j < k → IsRecordOf list (row j) (slice_index_or laid j d)
  pub refused : HasNoVersion list (next_behind next (versions_of laid)) (row k)
