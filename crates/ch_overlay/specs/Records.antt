-- Records of rows, and what a token of one shows.
use Rattle.std.specs.Prelude.{ℕ, ◌≡◌, ◌^◌, ◌<◌, List, [], ◌∷◌, All, IsSomeAnd, length}
use Rattle.std.specs.Arc.{arc_value}
use Rattle.boxcar.specs.Table.{Shelves, Where, Shows}
use Rattle.ch_cost.specs.declared.cost.Cost.{Cost}
use Rattle.ch_cost.specs.Cost.{zero_cost, length_of, arcs_of, of_walk}
use Rattle.ch_laws.specs.Rows.{Row}
use Rattle.ch_overlay.specs.Overlay.{Overlay, IsOverlay, IsSound, row_at}
use Rattle.ch_overlay.specs.Change.{Change, IsOf}
use Rattle.ch_overlay.specs.Source.{row_in}
use Rattle.ch_overlay.specs.declared.record.Record.{Record}
use Rattle.ch_overlay.specs.declared.source.Seen.{Seen}

-- a row of a node that can be relied on, in a graph of as many nodes as there can be
abbrev pub IsSoundRow : Cost → ℕ → Row → Type 0
IsSoundRow bound node row = IsSound (2 ^ 25) bound node row

-- each row can be relied on, as that of the node of its place
abbrev pub AreSoundRows : Cost → List Row → Type 0
AreSoundRows bound rows = (x : ℕ) → x < length rows → IsSoundRow bound x (row_at rows x)

-- the rows of a change of an overlay can be relied on
abbrev pub ChangesAreSound : Type 0
ChangesAreSound = (o : Overlay) (c : Change) → IsOverlay o → IsOf o c → All (λ a. (a.0 < length o.rows) × IsSoundRow o.bound a.0 a.1) c.rows

-- how a list of records is marked with the bound of its rows, by its two numbers, and the bound of a mark
abbrev pub mark_of : Cost → List ℕ
mark_of bound = length_of bound ∷ arcs_of bound ∷ []

abbrev pub marked : List ℕ → Cost
marked [] = zero_cost
marked (n ∷ []) = zero_cost
marked (n ∷ m ∷ rest) = of_walk n m

-- the row of a record
abbrev pub recorded_row : Record → Row
recorded_row r = arc_value r.row

-- each record of a list has a row that can be relied on under the list's bound
abbrev pub IsSoundRecord : List ℕ → ℕ → Record → Type 0
IsSoundRecord mark place r = IsSoundRow (marked mark) r.node (recorded_row r)

-- the answer is what a record of the list says, which is at the answer's version
pub record IsRecorded (list : Shelves) (s : Seen) (token : Where Record) : Type 0 where
  pub shown : Shows list token
  pub version : token.index ≡ s.version
  pub node : token.value.node ≡ s.node
  pub row : recorded_row token.value ≡ row_in s

-- The answer is the record of the list at its version, and it has the token of that record.
abbrev pub Bears : Shelves → Seen → Type 0
Bears list s = IsSomeAnd s.token (IsRecorded list s)
