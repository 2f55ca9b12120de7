-- The nodes whose rows a proposal rests on, pair by pair.
use Rattle.std.specs.Prelude.{ℕ, ◌≡◌, ◌≢◌, ◌⊎◌, List, [], ◌∷◌, ◌++◌, Option, Contains}
use Rattle.ch_cost.specs.declared.cost.Cost.{Cost}
use Rattle.ch_cost.specs.Cost.{◌≼◌, IsWithin}
use Rattle.ch_graph.specs.Walk.{Along}
use Rattle.ch_laws.specs.declared.entry.Entry.{Entry}
use Rattle.ch_laws.specs.declared.shortcut.Shortcut.{Shortcut}
use Rattle.ch_laws.specs.Contraction.{NoShortcut}
use Rattle.ch_laws.specs.Rows.{Row}
use Rattle.ch_laws.specs.Verdicts.{ListsThrough, SeenArc}

-- the second list is made of a part for each element of the first, in their order
pub data InParts {A B : Type 0} (IsPart : A → List B → Type 0) : List A → List B → Type 0 where
  ends : InParts IsPart [] []
  goes : {x : A} {xs : List A} {part rest : List B} → IsPart x part → InParts IsPart xs rest → InParts IsPart (x ∷ xs) (part ++ rest)

-- one of the entries is for another node than u
abbrev pub LeadsOn : List Entry → ℕ → Type 0
LeadsOn outs u = (e : Entry) × Contains outs e × (u ≢ e.other)

-- the row joins u with w at this sum, which isn't heavy, and the pair has no shortcut
pub record NeedsWay (bound : Cost) (row : Row) (put : List Shortcut) (u w : ℕ) (sum : Cost) : Type 0 where
  pub through : ListsThrough row u w sum
  pub within : IsWithin sum bound
  pub none : NoShortcut put u w

-- by the rows that were read a way leads from u over these nodes to w, and costs at most `sum`
pub record HasInner (seen : ℕ → Option Row) (v u w : ℕ) (sum : Cost) (inner : List ℕ) : Type 0 where
  pub cost : Cost
  pub way : Along (SeenArc seen v) (u ∷ inner ++ w ∷ []) u w cost
  pub at_most : cost ≼ sum

-- the inner nodes of a way from u to the end of this arc out of v, or nothing where the pair needs none
abbrev pub IsInnerOf : Cost → (ℕ → Option Row) → ℕ → Row → List Shortcut → ℕ → Entry → List ℕ → Type 0
IsInnerOf bound seen v row put u out inner = ((sum : Cost) × NeedsWay bound row put u out.other sum × HasInner seen v u out.other sum inner) ⊎ (((sum : Cost) → NeedsWay bound row put u out.other sum → ⊥) × (inner ≡ []))

-- the node that this arc into v leaves, and the inner nodes of the ways from it; or nothing where no other arc leads on
-- from v
abbrev pub IsNamedBy : Cost → (ℕ → Option Row) → ℕ → Row → List Shortcut → Entry → List ℕ → Type 0
IsNamedBy bound seen v row put into named = (LeadsOn row.out into.other × ((inner : List ℕ) × InParts (IsInnerOf bound seen v row put into.other) row.out inner × (named ≡ into.other ∷ inner))) ⊎ ((LeadsOn row.out into.other → ⊥) × (named ≡ []))

-- the nodes beside v whose rows are asked for by the pairs from these arcs into v
abbrev pub AreNamed : Cost → (ℕ → Option Row) → ℕ → Row → List Shortcut → List Entry → List ℕ → Type 0
AreNamed bound seen v row put inns named = InParts (IsNamedBy bound seen v row put) inns named
