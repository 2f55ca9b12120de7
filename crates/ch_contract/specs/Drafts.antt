-- Proposals in the making. Contracts of private functions alone cite it.
use Rattle.std.specs.Prelude.{ℕ, ◌≡◌, ◌≢◌, ◌<◌, ◌≤◌, ◌⊎◌, length, map, take, List, [], ◌∷◌, ◌++◌, Option, Some, None, All, AllPairs, Contains, IsSomeAnd, slice_index}
use Rattle.std.specs.List.{slice_get}
use Rattle.ch_cost.specs.declared.cost.Cost.{Cost}
use Rattle.ch_cost.specs.Cost.{◌⊕◌, ◌≼◌, IsWithin}
use Rattle.ch_laws.specs.declared.entry.Entry.{Entry}
use Rattle.ch_laws.specs.declared.shortcut.Shortcut.{Shortcut}
use Rattle.ch_laws.specs.Contraction.{NoShortcut}
use Rattle.ch_laws.specs.Rows.{Row}
use Rattle.ch_laws.specs.Verdicts.{HasWay, IsForShortcut, ListsThrough}
use Rattle.ch_overlay.specs.declared.source.Seen.{Seen}
use Rattle.ch_overlay.specs.Source.{row_in}
use Rattle.ch_overlay.specs.Pairs.{IsPairOf, over}
use Rattle.ch_witness.specs.declared.way.Way.{Way}
use Rattle.ch_witness.specs.Kept.{HasAll, IsKept, Kept}
use Rattle.ch_witness.specs.Ways.{AreWays, IsFound, IsStartRead, way_at}
use Rattle.ch_contract.specs.declared.draft.Draft.{Draft}
use Rattle.ch_contract.specs.Listed.{AreNamed, IsNamedBy, InParts}
use Rattle.ch_contract.specs.Proposal.{ShortcutBefore}

-- for each node of the list it has the row that is kept
abbrev pub AgreesWithKept : (ℕ → Option Row) → Kept → List ℕ → Type 0
AgreesWithKept seen kept listed = (x : ℕ) (s : Seen) → Contains listed x → kept x ≡ Some s → seen x ≡ Some (row_in s)

-- all of the nodes but the first and the last
abbrev pub IsInner : List ℕ → List ℕ → Type 0
IsInner nodes inner = ((length nodes ≤ 1) × (inner ≡ [])) ⊎ ((first last : ℕ) × (nodes ≡ first ∷ inner ++ last ∷ []))

-- the pair of the two arcs was put at the end, or there is none
abbrev pub IsPairAdded : Cost → Entry → Entry → List Shortcut → List Shortcut → Type 0
IsPairAdded bound into out old new = (IsPairOf bound into out None × (new ≡ old)) ⊎ ((p : Shortcut) × IsPairOf bound into out (Some p) × (new ≡ old ++ p ∷ []))

-- the pair of the two arcs alone, or nothing where there is none
abbrev pub IsPairPart : Cost → Entry → Entry → List Shortcut → Type 0
IsPairPart bound into out pairs = (IsPairOf bound into out None × (pairs ≡ [])) ⊎ ((p : Shortcut) × IsPairOf bound into out (Some p) × (pairs ≡ p ∷ []))

-- the pairs of one arc into a node with these arcs out of it
pub record ArePairs (bound : Cost) (into : Entry) (outs : List Entry) (pairs : List Shortcut) : Type 0 where
  pub each : (p : Shortcut) → Contains pairs p → (out : Entry) × Contains outs out × IsPairOf bound into out (Some p)
  pub every : (out : Entry) → Contains outs out → into.other ≢ out.other → IsWithin (into.cost ⊕ out.cost) bound → Contains pairs (over into out)
  pub sorted : AllPairs (λ p q. p.to < q.to) pairs
  pub parts : InParts (IsPairPart bound into) outs pairs

-- these nodes were listed beyond those before
abbrev pub Lengthens : List ℕ → Draft → Draft → Type 0
Lengthens more old new = new.listed.items ≡ old.listed.items ++ more

-- the pair got a shortcut, as no way costs at most as much; or one does, and its inner nodes were listed
abbrev pub IsPairJudged : Shortcut → Option Way → Draft → Draft → Type 0
IsPairJudged pair way old new = ((IsSomeAnd way (λ w. w.cost ≼ pair.cost) → ⊥) × (new.listed.items ≡ old.listed.items)
    × (new.shortcuts.items ≡ old.shortcuts.items ++ pair ∷ [])) ⊎
    ((w : Way) × (way ≡ Some w) × (w.cost ≼ pair.cost) × (new.shortcuts.items ≡ old.shortcuts.items)
    × ((more : List ℕ) × Lengthens more old new × IsInner w.nodes.items more))

-- the pair got a shortcut, as the way at its place, if there is one, costs more; or that way doesn't, and has these inner
-- nodes
abbrev pub IsJudgedBy : List Shortcut → List (Option Way) → List Shortcut → Shortcut → List ℕ → Type 0
IsJudgedBy pairs ways put p inner = (k : ℕ) × (slice_get pairs k ≡ Some p) × (((IsFound ways k p.cost → ⊥) × Contains put p × (inner ≡ [])) ⊎ ((w : Way) × (way_at ways k ≡ Some w) × (w.cost ≼ p.cost) × IsInner w.nodes.items inner))

-- The first n pairs are judged, each by the way at its place.
pub record AreJudged (pairs : List Shortcut) (ways : List (Option Way)) (n : ℕ) (old new : Draft) : Type 0 where
  pub put : List Shortcut
  pub more : List ℕ
  pub shortcuts : new.shortcuts.items ≡ old.shortcuts.items ++ put
  pub listed : Lengthens more old new
  pub only : (p : Shortcut) → Contains put p → (k : ℕ) × (k < n) × (slice_get pairs k ≡ Some p) × (IsFound ways k p.cost → ⊥)
  pub parts : InParts (IsJudgedBy pairs ways put) (take n pairs) more
  pub sorted : AllPairs (λ p q. p.to < q.to) pairs → AllPairs (λ p q. p.to < q.to) put

-- Each of the pairs, which lead from u to other nodes, is judged by a search around v.
pub record AreSearched (v u : ℕ) (pairs : List Shortcut) (kept : Kept) (old new : Draft) : Type 0 where
  pub rows : List Seen
  pub cutoff : Cost
  pub ways : List (Option Way)
  pub found : AreWays rows u v cutoff (map (λ p. p.to) pairs) ways
  pub most : (p : Shortcut) → Contains pairs p → p.cost ≼ cutoff
  pub direct : (k : ℕ) → k < length (map (λ (p : Shortcut). p.to) pairs) → slice_index (map (λ (p : Shortcut). p.to) pairs) k ≢ u → (s : Seen) × IsKept kept s × IsStartRead rows u cutoff (map (λ p. p.to) pairs) ways s
  pub rows_kept : All (IsKept kept) rows
  pub judged : AreJudged pairs ways (length pairs) old new

-- by these rows each of the shortcuts is a verdict on a pair from u, and each other pair from u that isn't heavy has a
-- way
pub record IsJoined (bound : Cost) (seen : ℕ → Option Row) (row : Row) (v u : ℕ) (put : List Shortcut) : Type 0 where
  pub shortcuts : (p : Shortcut) → Contains put p → IsForShortcut bound seen row p
  pub ways : (w : ℕ) (sum : Cost) → ListsThrough row u w sum → IsWithin sum bound → NoShortcut put u w → HasWay seen v u w sum

-- The pairs from the end of this arc into v are worked out: the verdicts on them hold by all rows that are listed, and
-- these are the ones that they ask for.
pub record IsDraftedFrom (bound : Cost) (v : ℕ) (row : Row) (into : Entry) (kept : Kept) (old new : Draft) : Type 0 where
  pub put : List Shortcut
  pub more : List ℕ
  pub shortcuts : new.shortcuts.items ≡ old.shortcuts.items ++ put
  pub listed : Lengthens more old new
  pub from_it : (p : Shortcut) → Contains put p → p.from ≡ into.other
  pub sorted : AllPairs (λ p q. p.to < q.to) put
  pub joined : (seen : ℕ → Option Row) → AgreesWithKept seen kept new.listed.items → IsJoined bound seen row v into.other put
  pub named : (seen : ℕ → Option Row) → AgreesWithKept seen kept new.listed.items → IsNamedBy bound seen v row put into more
  pub has_all : HasAll kept more

-- no pair is worked out yet, and the node's own row is listed
pub record IsBegun (v : ℕ) (d : Draft) : Type 0 where
  pub listed : d.listed.items ≡ v ∷ []
  pub shortcuts : d.shortcuts.items ≡ []

-- an entry of the list is for this node
abbrev pub Names : List Entry → ℕ → Type 0
Names entries u = (e : Entry) × Contains entries e × (e.other ≡ u)

-- The pairs from these neighbours are worked out.
pub record IsDrafted (bound : Cost) (v : ℕ) (row : Row) (inns : List Entry) (kept : Kept) (d : Draft) : Type 0 where
  pub others : List ℕ
  pub listed : d.listed.items ≡ v ∷ others
  pub from_them : (p : Shortcut) → Contains d.shortcuts.items p → Names inns p.from
  pub sorted : AllPairs ShortcutBefore d.shortcuts.items
  pub shortcuts : (seen : ℕ → Option Row) → AgreesWithKept seen kept d.listed.items → (p : Shortcut) → Contains d.shortcuts.items p → IsForShortcut bound seen row p
  pub ways : (seen : ℕ → Option Row) → AgreesWithKept seen kept d.listed.items → (u w : ℕ) (sum : Cost) → Names inns u → ListsThrough row u w sum → IsWithin sum bound → NoShortcut d.shortcuts.items u w → HasWay seen v u w sum
  pub named : (seen : ℕ → Option Row) → AgreesWithKept seen kept d.listed.items → AreNamed bound seen v row d.shortcuts.items inns others
  pub has_all : HasAll kept others
