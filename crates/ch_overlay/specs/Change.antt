-- What a contraction changes in an overlay.
use Rattle.std.specs.Prelude.{ℕ, ◌≡◌, ◌≢◌, ◌<◌, ◌↔◌, List, [], ◌∷◌, length, map, Some, All, AllPairs, Contains, slice_index, slice_set}
use Rattle.ch_laws.specs.declared.shortcut.Shortcut.{Shortcut}
use Rattle.ch_laws.specs.Contraction.{IsPlan, IsNeighbour}
use Rattle.ch_laws.specs.Rows.{Row, IsChanged}
use Rattle.ch_overlay.specs.Overlay.{Overlay, IsOverlay, row_at, state_of}

-- the node that is contracted, and the new rows, each with its node
pub record Change : Type 0 where
  pub node : ℕ
  pub rows : List (ℕ × Row)

-- The change that contracts a node and puts these shortcuts in: first the row of the node, which gets its rank and
-- keeps its entries, and then the changed row of each neighbour, by rising number.
pub record IsChange (o : Overlay) (put : List Shortcut) (c : Change) : Type 0 where
  pub plan : IsPlan o.bound (state_of o) c.node put
  pub others : List (ℕ × Row)
  pub rows : c.rows ≡ (c.node, record (row_at o.rows c.node) { rank = Some (length o.order) }) ∷ others
  pub rising : AllPairs (λ a b. a.0 < b.0) others
  pub neighbours : (x : ℕ) → Contains (map (λ a. a.0) others) x ↔ IsNeighbour (state_of o) c.node x
  pub changed : All (λ a. IsChanged put c.node a.0 (row_at o.rows a.0) a.1) others

-- the change was planned from this overlay
abbrev pub IsOf : Overlay → Change → Type 0
IsOf o c = (put : List Shortcut) × IsChange o put c

-- the list after each of these is put in its place, one after the other
abbrev pub puts : {A : Type 0} → List A → List (ℕ × A) → List A
puts xs [] = xs
puts xs (p ∷ ps) = puts (slice_set xs p.0 p.1) ps

-- the nodes whose rows change
abbrev pub changed_nodes : Change → List ℕ
changed_nodes c = map (λ a. a.0) c.rows

-- Of these nodes each gets a version above all earlier ones, and every other keeps its own.
pub record AreRenewed (nodes old new : List ℕ) : Type 0 where
  pub count : length new ≡ length old
  pub others : (x : ℕ) → (Contains nodes x → ⊥) → slice_index new x ≡ slice_index old x
  pub risen : (x : ℕ) → Contains nodes x → All (λ v. v < slice_index new x) old

-- A change of an overlay has one row for each of several nodes, and its rows are those of their nodes once it is put in.
pub record WritesItsRows (o : Overlay) (c : Change) : Type 0 where
  pub in_range : All (λ a. a.0 < length o.rows) c.rows
  pub once : AllPairs (λ a b. a.0 ≢ b.0) c.rows
  pub count : length (puts o.rows c.rows) ≡ length o.rows
  pub written : (a : ℕ × Row) → Contains c.rows a → row_at (puts o.rows c.rows) a.0 ≡ a.1

abbrev pub ChangesWriteTheirRows : Type 0
ChangesWriteTheirRows = (o : Overlay) (c : Change) → IsOverlay o → IsOf o c → WritesItsRows o c
