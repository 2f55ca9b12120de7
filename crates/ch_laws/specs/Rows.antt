-- The rows of a state: what it has of each node, as lists.
use Rattle.std.specs.Prelude.{ℕ, ◌≡◌, ◌≢◌, ◌<◌, ◌⊎◌, ◌↔◌, cond, nat_eq, List, [], ◌∷◌, length, Option, Some, None, All, AllPairs, Contains, slice_index, slice_index_or}
use Rattle.ch_cost.specs.declared.cost.Cost.{Cost}
use Rattle.ch_cost.specs.Cost.{zero_cost, ◌≺◌, IsWithin}
use Rattle.ch_graph.specs.Graph.{Graph}
use Rattle.ch_graph.specs.LeastArcs.{IsLeastArc}
pub use Rattle.ch_laws.specs.declared.entry.Entry.{Entry}
use Rattle.ch_laws.specs.Contraction.{State, StateArc, Before, Remains, IsNeighbour, Shortcut, IsFor, NoShortcut, or_else}

-- an arc between two different nodes, not free and not heavy
pub record IsPlainArc (nodes : ℕ) (bound : Cost) (x y : ℕ) (arc : StateArc) : Type 0 where
  pub from_in : x < nodes
  pub to_in : y < nodes
  pub apart : x ≢ y
  pub above : zero_cost ≺ arc.cost
  pub within : IsWithin arc.cost bound

-- what is contracted is a node, and each arc is such an arc; every reached state is so
pub record IsPlain (bound : Cost) (s : State) : Type 0 where
  pub in_range : All (λ x. x < s.nodes) s.order
  pub arcs : (x y : ℕ) (arc : StateArc) → s.arc x y ≡ Some arc → IsPlainArc s.nodes bound x y arc

-- the arcs out of a node, those into it, and its rank where it is contracted
pub record Row : Type 0 where
  pub out : List Entry
  pub inn : List Entry
  pub rank : Option ℕ

-- one entry for each other node, by rising number
abbrev pub Rises : List Entry → Type 0
Rises entries = AllPairs (λ a b. a.other < b.other) entries

-- the arc of the state that the entry describes
abbrev pub arc_of : Entry → Option StateArc
arc_of e = Some (record { cost = e.cost; middle = e.middle })

-- The row of x: its arcs to and from all nodes but those contracted before it, and its rank where it has one.
pub record IsRow (s : State) (x : ℕ) (r : Row) : Type 0 where
  pub rank : (k : ℕ) → (r.rank ≡ Some k) ↔ ((k < length s.order) × (slice_index s.order k ≡ x))
  pub out_rises : Rises r.out
  pub inn_rises : Rises r.inn
  pub out : (e : Entry) → Contains r.out e ↔ ((s.arc x e.other ≡ arc_of e) × (Before s.order e.other x → ⊥))
  pub inn : (e : Entry) → Contains r.inn e ↔ ((s.arc e.other x ≡ arc_of e) × (Before s.order e.other x → ⊥))

-- an entry of the list is for y and costs c
pub record Lists (entries : List Entry) (y : ℕ) (c : Cost) : Type 0 where
  pub entry : Entry
  pub among : Contains entries entry
  pub other : entry.other ≡ y
  pub costs : entry.cost ≡ c

-- The row shows the remaining graph at x: it has no rank, and its entries are the arcs to and from alive nodes, so
-- those that it names are the neighbours.
pub record ShowsRemaining (s : State) (x : ℕ) (r : Row) : Type 0 where
  pub unranked : r.rank ≡ None
  pub out : (y : ℕ) (c : Cost) → Remains s x y c ↔ Lists r.out y c
  pub inn : (y : ℕ) (c : Cost) → Remains s y x c ↔ Lists r.inn y c
  pub neighbours : (y : ℕ) → IsNeighbour s x y ↔ (((c : Cost) × Lists r.out y c) ⊎ ((c : Cost) × Lists r.inn y c))

-- the arc that a list of entries has for this other node
abbrev pub arc_to : ℕ → List Entry → Option StateArc
arc_to y [] = None
arc_to y (e ∷ es) = cond (nat_eq e.other y) (arc_of e) (arc_to y es)

-- the arc from x to y by their rows: an arc out of x, or else an arc into y
abbrev pub shown : Row → Row → ℕ → ℕ → Option StateArc
shown q r x y = or_else (arc_to y q.out) (arc_to x r.inn)

-- the row of a node without arcs
abbrev pub no_arcs : Row
no_arcs = record { out = []; inn = []; rank = None }

-- the row of a node in a list of all rows
abbrev pub row_at : List Row → ℕ → Row
row_at rows x = slice_index_or rows x no_arcs

-- the arc from x to y by these rows
unfoldable pub arc_by_rows : List Row → ℕ → ℕ → Option StateArc
arc_by_rows rows x y = shown (row_at rows x) (row_at rows y) x y

-- the state that these rows and this order show
abbrev pub state_by : List Row → List ℕ → State
state_by rows order = record { nodes = length rows; order = order; arc = arc_by_rows rows }

-- the list has the row of each node
pub record AreRows (s : State) (rows : List Row) : Type 0 where
  pub many : length rows ≡ s.nodes
  pub each : (x : ℕ) → x < s.nodes → IsRow s x (row_at rows x)

-- The row of x before any contraction: the least arc to each other node that it has an arc to, and the least from each
-- that it has one from, all without a middle.
pub record IsStartRow (g : Graph) (x : ℕ) (r : Row) : Type 0 where
  pub rank : r.rank ≡ None
  pub out_rises : Rises r.out
  pub inn_rises : Rises r.inn
  pub out : (e : Entry) → Contains r.out e ↔ ((x ≢ e.other) × IsLeastArc g x e.other e.cost × (e.middle ≡ None))
  pub inn : (e : Entry) → Contains r.inn e ↔ ((x ≢ e.other) × IsLeastArc g e.other x e.cost × (e.middle ≡ None))

-- the entry describes a shortcut from u to w with the middle v
pub record IsOfShortcut (put : List Shortcut) (v u w : ℕ) (e : Entry) : Type 0 where
  pub shortcut : Shortcut
  pub among : Contains put shortcut
  pub joins : IsFor shortcut u w
  pub cost : e.cost ≡ shortcut.cost
  pub middle : e.middle ≡ Some v

-- what is left of an entry: it is that of a shortcut, or an old one of a pair without shortcut and of another node
abbrev pub IsEntryAfter : List Shortcut → ℕ → ℕ → ℕ → List Entry → Entry → Type 0
IsEntryAfter put v u w old e = IsOfShortcut put v u w e ⊎ (NoShortcut put u w × (e.other ≢ v) × Contains old e)

-- How a contraction of v changes the row of a neighbour x: v leaves it, and the shortcuts at x come into it.
pub record IsChanged (put : List Shortcut) (v x : ℕ) (old new : Row) : Type 0 where
  pub rank : new.rank ≡ old.rank
  pub out_rises : Rises new.out
  pub inn_rises : Rises new.inn
  pub out : (e : Entry) → Contains new.out e ↔ IsEntryAfter put v x e.other old.out e
  pub inn : (e : Entry) → Contains new.inn e ↔ IsEntryAfter put v e.other x old.inn e

-- How a contraction of v changes the list of all rows: v gets its rank, its neighbours' rows change, and the others
-- stay.
pub record AreUpdated (s : State) (put : List Shortcut) (v : ℕ) (old new : List Row) : Type 0 where
  pub many : length new ≡ length old
  pub contracted : row_at new v ≡ record (row_at old v) { rank = Some (length s.order) }
  pub neighbours : (x : ℕ) → IsNeighbour s v x → IsChanged put v x (row_at old x) (row_at new x)
  pub others : (x : ℕ) → x ≢ v → (IsNeighbour s v x → ⊥) → row_at new x ≡ row_at old x
