-- The rows of all nodes, and the state of contraction that they show.
use Rattle.std.specs.Prelude.{ℕ, ◌≡◌, ◌≢◌, ◌^◌, ◌<◌, ◌≤◌, List, length, All, AllPairs}
use Rattle.std.specs.List.{range_with_len}
use Rattle.ch_cost.specs.declared.cost.Cost.{Cost}
use Rattle.ch_cost.specs.Cost.{zero_cost, ◌≺◌, IsWithin}
use Rattle.ch_graph.specs.Graph.{Graph}
use Rattle.ch_graph.specs.Limits.{bound_of}
use Rattle.ch_laws.specs.declared.entry.Entry.{Entry}
use Rattle.ch_laws.specs.Contraction.{State, IsStart}
use Rattle.ch_laws.specs.Rows.{Row, IsPlain, IsRow, Rises, state_by}
pub use Rattle.ch_laws.specs.Rows.{no_arcs, row_at}

-- the row and the version of each node, and the contracted nodes, first to last
pub record Overlay : Type 0 where
  pub bound : Cost
  pub rows : List Row
  pub versions : List ℕ
  pub order : List ℕ

-- the state that the rows show
abbrev pub state_of : Overlay → State
state_of o = state_by o.rows o.order

-- an entry of the row of x, one of this many nodes: of another node, not free and not heavy
pub record IsEntry (nodes : ℕ) (bound : Cost) (x : ℕ) (e : Entry) : Type 0 where
  pub in_range : e.other < nodes
  pub apart : e.other ≢ x
  pub above : zero_cost ≺ e.cost
  pub within : IsWithin e.cost bound

-- the entries of the row of x
pub record AreEntries (nodes : ℕ) (bound : Cost) (x : ℕ) (r : Row) : Type 0 where
  pub out : All (IsEntry nodes bound x) r.out
  pub inn : All (IsEntry nodes bound x) r.inn

-- A row of x, one of this many nodes, that can be relied on: each list rises, and each entry is of another node, not free
-- and not heavy.
pub record IsSound (nodes : ℕ) (bound : Cost) (x : ℕ) (r : Row) : Type 0 where
  pub in_range : x < nodes
  pub out_rises : Rises r.out
  pub inn_rises : Rises r.inn
  pub entries : AreEntries nodes bound x r

-- each row is that of its node in the state that all of them show, whose arcs are plain, and each contracted node is
-- in the order once
pub record IsOverlay (o : Overlay) : Type 0 where
  pub few_nodes : length o.rows ≤ 2 ^ 25
  pub versions : length o.versions ≡ length o.rows
  pub once : AllPairs (λ x y. x ≢ y) o.order
  pub plain : IsPlain o.bound (state_of o)
  pub rows : (x : ℕ) → x < length o.rows → IsRow (state_of o) x (row_at o.rows x)
  pub entries : (x : ℕ) → x < length o.rows → AreEntries (length o.rows) o.bound x (row_at o.rows x)

-- the overlay of a graph in which no node is contracted, each node's version being its number
pub record IsStartOverlay (g : Graph) (o : Overlay) : Type 0 where
  pub start : IsStart g (state_of o)
  pub versions : o.versions ≡ range_with_len 0 g.nodes
  pub bound : o.bound ≡ bound_of g
