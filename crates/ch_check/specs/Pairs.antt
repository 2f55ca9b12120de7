-- The pairs by way of a node, what is due for each, and searches for ways around the node.
use Rattle.std.specs.Prelude.{ℕ, ◌≡◌, ◌≢◌, ◌<◌, ◌≤◌, ◌^◌, ◌⊎◌, List, [], ◌∷◌, ◌++◌, length, Option, Some, None, AllPairs, Contains, IfSome, slice_index}
use Rattle.std.specs.List.{slice_get}
use Rattle.ch_cost.specs.declared.cost.Cost.{Cost}
use Rattle.ch_cost.specs.Cost.{◌⊕◌, ◌≼◌, ◌≺◌, IsWithin}
use Rattle.ch_laws.specs.declared.entry.Entry.{Entry}
use Rattle.ch_laws.specs.declared.shortcut.Shortcut.{Shortcut}
use Rattle.ch_laws.specs.Contraction.{IsAlive, IsFor, NoShortcut}
use Rattle.ch_laws.specs.Rows.{Row, Rises, Lists}
use Rattle.ch_laws.specs.Verdicts.{HasWay, IsForShortcut, ListsThrough, SeenArc}
use Rattle.ch_overlay.specs.Overlay.{Overlay, AreEntries, state_of}
use Rattle.ch_overlay.specs.Pairs.{IsPairOf}
use Rattle.ch_overlay.specs.Source.{IsBound}
use Rattle.ch_graph.specs.Walk.{Walk}
use Rattle.ch_overlay.specs.declared.source.Seen.{Seen}
use Rattle.ch_overlay.specs.Source as sources
use Rattle.ch_witness.specs.declared.way.Way.{Way}
use Rattle.ch_witness.specs.Kept.{Kept, AllNamed, AreKept}
use Rattle.ch_witness.specs.Ways.{IsFound, way_at}
use Rattle.ch_check.specs.declared.pairs.ContractionTask.{ContractionTask}
use Rattle.ch_check.specs.declared.anew.AnewTask.{AnewTask}
use Rattle.ch_check.specs.declared.share.Share.{Share}
use Rattle.ch_check.specs.declared.share.Share.TheVariants.{Spared, Put, Owed}

-- The pairs by way of a node, and what is due for each.

-- the row of each node of an overlay
abbrev pub row_in : Overlay → ℕ → Option Row
row_in o x = slice_get o.rows x

-- the row of x, which isn't contracted, has an arc to y
pub record HasArc (o : Overlay) (x y : ℕ) (c : Cost) : Type 0 where
  pub row : Row
  pub read : row_in o x ≡ Some row
  pub unranked : row.rank ≡ None
  pub listed : Lists row.out y c

-- the row of a node that isn't contracted; nor are those that it has an arc to or from, whose rows have those arcs too
pub record IsOpenRow (o : Overlay) (x : ℕ) (r : Row) : Type 0 where
  pub inside : x < length o.rows
  pub read : row_in o x ≡ Some r
  pub unranked : r.rank ≡ None
  pub out_rises : Rises r.out
  pub inn_rises : Rises r.inn
  pub entries : AreEntries (length o.rows) o.bound x r
  pub outs : (e : Entry) → Contains r.out e → IsAlive (state_of o) e.other
  pub inns : (e : Entry) → Contains r.inn e → IsAlive (state_of o) e.other
  pub starts : (e : Entry) → Contains r.inn e → HasArc o e.other x e.cost

-- the rows are bounded, and the row of the node is open
pub record IsTask (t : ContractionTask) : Type 0 where
  pub bound : IsBound t.overlay.now.bound
  pub row : IsOpenRow t.overlay.now t.node t.row.now

-- and so it is where no hierarchy names the shortcuts; a search settles some nodes, and not too many
pub record IsAnew (t : AnewTask) : Type 0 where
  pub bound : IsBound t.overlay.now.bound
  pub row : IsOpenRow t.overlay.now t.node t.row.now
  pub some : 1 ≤ t.settle
  pub few : t.settle ≤ 2 ^ 16

-- one of these arcs leads to where the pair does, and costs no more
pub record LeadsDirectly (outs : List Entry) (p : Shortcut) : Type 0 where
  pub cost : Cost
  pub listed : Lists outs p.to cost
  pub at_most : cost ≼ p.cost

-- each of these arcs to there costs more
abbrev pub CostMore : List Entry → Shortcut → Type 0
CostMore outs p = (c : Cost) → Lists outs p.to c → p.cost ≺ c

-- one of these arcs and then this one lead around v to where the pair does, and cost no more together
pub record LeadsBy (outs : List Entry) (last : Entry) (v : ℕ) (p : Shortcut) : Type 0 where
  pub cost : Cost
  pub listed : Lists outs last.other cost
  pub apart : last.other ≢ v
  pub at_most : cost ⊕ last.cost ≼ p.cost

-- and so does one of them and then one of those
abbrev pub LeadsOver : List Entry → List Entry → ℕ → Shortcut → Type 0
LeadsOver outs inns v p = (last : Entry) × Contains inns last × LeadsBy outs last v p

-- what is due for the pair of the two arcs by way of v: nothing, a shortcut, or a way
abbrev pub IsDue : Overlay → ℕ → Row → Entry → Entry → Share → Type 0
IsDue o v first into out Spared = (p : Shortcut) → IsPairOf o.bound into out (Some p) → HasWay (row_in o) v p.from p.to p.cost
IsDue o v first into out (Put p) = IsPairOf o.bound into out (Some p) × CostMore first.out p
IsDue o v first into out (Owed p) = IsPairOf o.bound into out (Some p)

-- a shortcut is due for a pair that was found
abbrev pub share_of : Option Shortcut → Share
share_of (Some p) = Put p
share_of None = Spared

-- a pair is added to those that it is due to
abbrev pub IsAdded : Share → List Shortcut → List Shortcut → List Shortcut → List Shortcut → Type 0
IsAdded Spared put owed new_put new_owed = (new_put ≡ put) × (new_owed ≡ owed)
IsAdded (Put p) put owed new_put new_owed = (new_put ≡ put ++ p ∷ []) × (new_owed ≡ owed)
IsAdded (Owed p) put owed new_put new_owed = (new_put ≡ put) × (new_owed ≡ owed ++ p ∷ [])

-- the pair is that of the arc into the node and one of these out of it
abbrev pub IsPairAmong : Cost → Entry → List Entry → Shortcut → Type 0
IsPairAmong bound into outs p = (out : Entry) × Contains outs out × IsPairOf bound into out (Some p)

-- The pairs of an arc into v and these out of it: for each there is a way, or it is put, or a way is owed.
pub record AreSorted (o : Overlay) (v : ℕ) (first : Row) (into : Entry) (outs : List Entry) (put owed : List Shortcut) : Type 0 where
  pub from_put : (p : Shortcut) → Contains put p → IsPairAmong o.bound into outs p
  pub less : (p : Shortcut) → Contains put p → CostMore first.out p
  pub rising : AllPairs (λ p q. p.to < q.to) put
  pub from_owed : (p : Shortcut) → Contains owed p → IsPairAmong o.bound into outs p
  pub every : (out : Entry) (p : Shortcut) → Contains outs out → IsPairOf o.bound into out (Some p) → (Contains put p ⊎ Contains owed p) ⊎ HasWay (row_in o) v p.from p.to p.cost

-- a way leads around v for each of these pairs
abbrev pub HaveWays : Overlay → ℕ → List Shortcut → Type 0
HaveWays o v owed = (p : Shortcut) → Contains owed p → HasWay (row_in o) v p.from p.to p.cost

-- the verdicts on the pairs from one neighbour of v, by the rows as they are
pub record IsJoined (o : Overlay) (v : ℕ) (row : Row) (into : Entry) (put : List Shortcut) : Type 0 where
  pub from : (p : Shortcut) → Contains put p → p.from ≡ into.other
  pub rising : AllPairs (λ p q. p.to < q.to) put
  pub shortcuts : (p : Shortcut) → Contains put p → IsForShortcut o.bound (row_in o) row p
  pub ways : (w : ℕ) (sum : Cost) → ListsThrough row into.other w sum → IsWithin sum o.bound → NoShortcut put into.other w → HasWay (row_in o) v into.other w sum

-- The shortcuts of the pairs from one neighbour come behind the others.
pub record Joins (o : Overlay) (v : ℕ) (row : Row) (into : Entry) (old new : List Shortcut) : Type 0 where
  pub put : List Shortcut
  pub appends : new ≡ old ++ put
  pub joined : IsJoined o v row into put

-- those on the pairs from each of these
pub record AreJoined (o : Overlay) (v : ℕ) (row : Row) (inns : List Entry) (put : List Shortcut) : Type 0 where
  pub from : (p : Shortcut) → Contains put p → (e : Entry) × Contains inns e × (p.from ≡ e.other)
  pub once : AllPairs (λ p q. IsFor p q.from q.to → ⊥) put
  pub shortcuts : (p : Shortcut) → Contains put p → IsForShortcut o.bound (row_in o) row p
  pub ways : (e : Entry) (w : ℕ) (sum : Cost) → Contains inns e → ListsThrough row e.other w sum → IsWithin sum o.bound → NoShortcut put e.other w → HasWay (row_in o) v e.other w sum

-- Searches along the rows of an overlay.

-- the answer has the row of its node
abbrev pub ShowsRow : Overlay → Seen → Type 0
ShowsRow o s = row_in o s.node ≡ Some (sources.row_in s)

-- x is one of its nodes
abbrev pub IsNode : Overlay → ℕ → Type 0
IsNode o x = x < length o.rows

-- all answers that are kept have the rows of the overlay, which name its nodes alone
pub record AreRowsOf (o : Overlay) (kept : Kept) : Type 0 where
  pub answers : AreKept (λ _. Unit {0}) (ShowsRow o) o.bound kept
  pub named : AllNamed (IsNode o) kept

-- each pair leads from u, not to v, and isn't heavy
abbrev pub AreOwed : Overlay → ℕ → ℕ → List Shortcut → Type 0
AreOwed o v u owed = (p : Shortcut) → Contains owed p → (p.from ≡ u) × (p.to ≢ v) × IsWithin p.cost o.bound

-- for each target a way from u to it around v along arcs of the rows of an overlay, or none
pub record AreAround (o : Overlay) (v u : ℕ) (targets : List ℕ) (ways : List (Option Way)) : Type 0 where
  pub many : length ways ≡ length targets
  pub leads : (k : ℕ) → k < length targets → IfSome (way_at ways k) (λ w. Walk (SeenArc (row_in o) v) u (slice_index targets k) w.cost)

-- pairs by their ends
abbrev pub AreByEnds : List Shortcut → Type 0
AreByEnds pairs = AllPairs (λ p q. p.to < q.to) pairs

-- these are some of the first n pairs, in their order, and each other one among them is reached at no more than it costs
pub record AreUnmet (owed : List Shortcut) (ways : List (Option Way)) (n : ℕ) (left : List Shortcut) : Type 0 where
  pub among : (p : Shortcut) → Contains left p → Contains owed p
  pub before : (p : Shortcut) → Contains left p → (k : ℕ) × (k < n) × (slice_get owed k ≡ Some p)
  pub rising : AreByEnds owed → AreByEnds left
  pub found : (k : ℕ) (p : Shortcut) → k < n → slice_get owed k ≡ Some p → Contains left p ⊎ IsFound ways k p.cost

-- these are some of the pairs, in their order, and a way leads around v for each other one
pub record AreLeft (o : Overlay) (v : ℕ) (owed left : List Shortcut) : Type 0 where
  pub among : (p : Shortcut) → Contains left p → Contains owed p
  pub rising : AreByEnds owed → AreByEnds left
  pub ways : (p : Shortcut) → Contains owed p → Contains left p ⊎ HasWay (row_in o) v p.from p.to p.cost
