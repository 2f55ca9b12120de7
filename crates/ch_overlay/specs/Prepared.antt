-- The new rows of a contraction, made by old ones before the contraction has its rank.
use Rattle.std.specs.Prelude.{ℕ, ◌≡◌, ◌≢◌, ◌<◌, ◌↔◌, ◌⊎◌, List, map, All, AllPairs, Contains}
use Rattle.ch_laws.specs.declared.entry.Entry.{Entry}
use Rattle.ch_laws.specs.declared.shortcut.Shortcut.{Shortcut}
use Rattle.ch_laws.specs.Contraction.{IsPlan}
use Rattle.ch_laws.specs.Rows.{Row, IsChanged}
use Rattle.ch_overlay.specs.Overlay.{Overlay, row_at, state_of}

-- an entry of the row is for x
abbrev pub Names : Row → ℕ → Type 0
Names row x = (e : Entry) × (Contains row.out e ⊎ Contains row.inn e) × (e.other ≡ x)

-- the nodes that the row names, each once, by rising number
pub record AreNamed (row : Row) (nodes : List ℕ) : Type 0 where
  pub rising : AllPairs (λ x y. x < y) nodes
  pub named : (x : ℕ) → Contains nodes x ↔ Names row x

-- the contracted node with its old row, and the changed row of each neighbour
pub record Prepared : Type 0 where
  pub node : ℕ
  pub row : Row
  pub others : List (ℕ × Row)

-- the new row of a node is what a contraction of v makes of the one that `near` has of it
pub record IsMadeBy (near : List (ℕ × Row)) (put : List Shortcut) (v : ℕ) (new : ℕ × Row) : Type 0 where
  pub old : Row
  pub among : Contains near (new.0, old)
  pub changed : IsChanged put v new.0 old new.1

-- no shortcut begins or ends at v
abbrev pub LeaveOut : ℕ → List Shortcut → Type 0
LeaveOut v put = (p : Shortcut) → Contains put p → (p.from ≢ v) × (p.to ≢ v)

-- They were made for a contraction of v that puts these shortcuts in, by v's row and the rows `near`, one of each.
pub record IsPrepared (v : ℕ) (row : Row) (near : List (ℕ × Row)) (put : List Shortcut) (p : Prepared) : Type 0 where
  pub of_node : p.node ≡ v
  pub same : p.row ≡ row
  pub nodes : map (λ a. a.0) p.others ≡ map (λ a. a.0) near
  pub made : LeaveOut v put → All (IsMadeBy near put v) p.others

-- They fit an overlay: the shortcuts are a plan, and the rows that they were made by are the overlay's, of the node and of
-- all its neighbours.
pub record Fits (o : Overlay) (put : List Shortcut) (p : Prepared) : Type 0 where
  pub plan : IsPlan o.bound (state_of o) p.node put
  pub near : List (ℕ × Row)
  pub made : IsPrepared p.node (row_at o.rows p.node) near put p
  pub rows : All (λ a. a.1 ≡ row_at o.rows a.0) near
  pub named : AreNamed (row_at o.rows p.node) (map (λ a. a.0) near)
