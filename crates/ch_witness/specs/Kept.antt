-- The answers of a source that are kept.
use Rattle.std.specs.Prelude.{ℕ, ◌≡◌, ◌≢◌, List, [], ◌∷◌, ◌++◌, Option, Some, None, Result, Ok, Err, map, All, AllPairs, Contains, slice_index_or}
use Rattle.std.proofs.lemmas.List.Elements.{Contains-get_or}
use Rattle.std.proofs.Common.{sym, subst, ap, ◌∙◌}
use Rattle.std.specs.List.{slice_get}
use Rattle.ch_cost.specs.declared.cost.Cost.{Cost}
use Rattle.ch_overlay.specs.declared.source.Seen.{Seen}
use Rattle.ch_overlay.specs.Source.{row_in, IsBound, IsSeenRow, NamesAlone}
use Rattle.ch_witness.specs.declared.rows.Rows.{Rows}
use Rattle.ch_witness.specs.FirstPlaces.{first_places}
use Rattle.ch_witness.specs.Places.{value_in}

-- the answer that is kept for each node
abbrev pub Kept : Type 0
Kept = ℕ → Option Seen

-- the answer that is there, if one is
abbrev pub joined : Option (Option Seen) → Option Seen
joined None = None
joined (Some o) = o

abbrev pub kept_of : Rows → Kept
kept_of r x = joined (value_in r.nodes r.kept.items x)

-- the answer is at this place
abbrev pub StandsAt : Rows → ℕ → Seen → Type 0
StandsAt r place s = slice_get r.kept.items place ≡ Some (Some s)

-- the answer is the one that is kept for its node
abbrev pub IsKept : Kept → Seen → Type 0
IsKept kept s = kept s.node ≡ Some s

-- an answer for x that the source has given and vouches for
pub record IsAnswer (Bears Shows : Seen → Type 0) (bound : Cost) (x : ℕ) (s : Seen) : Type 0 where
  pub node : s.node ≡ x
  pub bears : Bears s
  pub shows : Shows s
  pub row : IsSeenRow bound s
  pub limit : IsBound bound

-- an answer for x that the source has given and vouches for is kept, and is at this place
pub record IsReadAt (Bears Shows : Seen → Type 0) (bound : Cost) (x : ℕ) (r : Rows) (place : ℕ) : Type 0 where
  pub seen : Seen
  pub there : StandsAt r place seen
  pub kept : kept_of r x ≡ Some seen
  pub answer : IsAnswer Bears Shows bound x seen

-- each answer that is kept is of its node, and the source vouches for it
abbrev pub AreKept : (Seen → Type 0) → (Seen → Type 0) → Cost → Kept → Type 0
AreKept Bears Shows bound kept = (x : ℕ) (s : Seen) → kept x ≡ Some s → IsAnswer Bears Shows bound x s

-- what was kept is kept on
abbrev pub IsMore : Kept → Kept → Type 0
IsMore old new = (x : ℕ) (s : Seen) → old x ≡ Some s → new x ≡ Some s

-- the rows that are kept name nodes of this kind alone
abbrev pub AllNamed : (ℕ → Type 0) → Kept → Type 0
AllNamed IsKind kept = (x : ℕ) (s : Seen) → kept x ≡ Some s → NamesAlone IsKind (row_in s)

-- The source moved in this way; it vouches for the answers that are kept now, and what was kept is kept on.
pub record IsReadOn (Bears Shows : Seen → Type 0) (bound : Cost) (Moved : Type 0) (old new : Kept) : Type 0 where
  pub kept : AreKept Bears Shows bound new
  pub more : IsMore old new
  pub stays : Moved

-- no row was missing, and those that are kept name nodes of this kind alone
abbrev pub FindsRows : {T E : Type 0} → E → (ℕ → Type 0) → Kept → Result T E → Type 0
FindsRows unseen IsKind kept (Ok _) = AllNamed IsKind kept
FindsRows unseen IsKind kept (Err e) = e ≢ unseen

-- each answer that is kept is of its node
abbrev pub OfTheirNodes : Kept → Type 0
OfTheirNodes kept = (x : ℕ) (s : Seen) → kept x ≡ Some s → s.node ≡ x

-- the answer for x, if one is kept, moved to the end of the list
abbrev pub IsListedFrom : Option Seen → Kept → ℕ → List Seen → Kept → List Seen → Type 0
IsListedFrom None kept x listed new more = ((y : ℕ) → new y ≡ kept y) × (more ≡ listed)
IsListedFrom (Some s) kept x listed new more = (new x ≡ None) × ((y : ℕ) → y ≢ x → new y ≡ kept y) × (more ≡ listed ++ s ∷ [])

abbrev pub IsListed : Kept → ℕ → List Seen → Kept → List Seen → Type 0
IsListed kept x listed new more = IsListedFrom (kept x) kept x listed new more

-- an answer is kept for each of these nodes
abbrev pub HasAll : Kept → List ℕ → Type 0
HasAll kept nodes = (x : ℕ) → Contains nodes x → (s : Seen) × (kept x ≡ Some s)

-- The list has the answers that are kept for these nodes, each once, that of the first node first. Where one is kept for
-- each of them, they are in the order of the nodes, each at its first place.
pub record AreListed (kept : Kept) (nodes : List ℕ) (listed : List Seen) : Type 0 where
  pub once : AllPairs (λ a b. a.node ≢ b.node) listed
  pub from_kept : (s : Seen) → Contains listed s → kept s.node ≡ Some s
  pub of_nodes : (s : Seen) → Contains listed s → Contains nodes s.node
  pub every : (x : ℕ) (s : Seen) → Contains nodes x → kept x ≡ Some s → Contains listed s
  pub first : (x : ℕ) (others : List ℕ) (s : Seen) → nodes ≡ x ∷ others → kept x ≡ Some s → (more : List Seen) × (listed ≡ s ∷ more)
  pub in_order : HasAll kept nodes → map (λ s. s.node) listed ≡ first_places nodes

-- what is listed is of each kind that the answers are of
pub all_listed_are : (Bears Shows IsKind : Seen → Type 0) (bound : Cost) (kept : Kept) (nodes : List ℕ) (listed : List Seen) → AreKept Bears Shows bound kept → AreListed kept nodes listed → ((x : ℕ) (s : Seen) → IsAnswer Bears Shows bound x s → IsKind s) → All IsKind listed
all_listed_are Bears Shows IsKind bound kept nodes listed answers listing to k d h =
    let s = slice_index_or listed k d in
    to s.node s (answers s.node s (listing.from_kept s (Contains-get_or listed k d h)))

-- what is at the place where a node was read is the answer that is kept for it
pub read_there : (Bears Shows : Seen → Type 0) (bound : Cost) (x : ℕ) (r : Rows) (place : ℕ) (s : Seen) → IsReadAt Bears Shows bound x r place → StandsAt r place s → IsKept (kept_of r) s × IsAnswer Bears Shows bound x s
read_there Bears Shows bound x r place s read here =
    let it : read.seen ≡ s = same (slice_get r.kept.items place) read.seen s read.there here in
    let answer : IsAnswer Bears Shows bound x s = subst (IsAnswer Bears Shows bound x) it read.answer in
    (subst (λ (y : ℕ). kept_of r y ≡ Some s) (sym answer.node) (read.kept ∙ ap (λ (t : Seen). Some t) it), answer) where
      same : (o : Option (Option Seen)) (a b : Seen) → o ≡ Some (Some a) → o ≡ Some (Some b) → a ≡ b
      same o a b e f = cc

-- an error but the one of a missing row leaves nothing to say of the rows
pub finds_unless : {T E : Type 0} (unseen : E) (IsKind : ℕ → Type 0) (kept : Kept) (r : Result T E) (e : E) → r ≡ Err e → e ≢ unseen → FindsRows unseen IsKind kept r
finds_unless {T} {E} unseen IsKind kept r e is other = subst (λ (o : Result T E). FindsRows unseen IsKind kept o) (sym is) other
