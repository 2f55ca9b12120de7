-- Rows that were read for a contraction, in two lists, and new rows that were made by them.
use Rattle.std.proofs.Common.{ℕ, ◌≡◌, ◌≢◌, ◌<◌, ◌+◌, Bool, true, false, cond, nat_eq, List, [], ◌∷◌, ◌++◌, Option, Some, None, is_some, length, map, take, drop, All, AllPairs, IsSome, IfSome, get_or, arith, ap, sym, subst, refl, ◌∙◌, inl, inr}
use Rattle.std.proofs.lemmas.Bool.Decides.{nat_tests}
use Rattle.std.proofs.lemmas.List.{take_more, take-append-drop, drop_more}
use Rattle.std.proofs.lemmas.List.Elements.{All-append, All-cons, All-contains, All-head, All-tail, Contains-get_or}
use Rattle.ch_cost.specs.declared.cost.Cost.{Cost}
use Rattle.ch_laws.specs.declared.shortcut.Shortcut.{Shortcut}
use Rattle.ch_laws.specs.Contraction.{IsFor, IsPlan}
use Rattle.ch_laws.specs.declared.entry.Entry.{Entry}
use Rattle.ch_laws.specs.Members.{map-map}
use Rattle.ch_laws.specs.Rows.{Row, Rises}
use Rattle.ch_overlay.specs.declared.source.Seen.{Seen}
use Rattle.ch_overlay.specs.Finding.{row_among}
use Rattle.ch_overlay.specs.Overlay.{state_of}
use Rattle.ch_overlay.specs.Prepared.{AreNamed, IsPrepared, Prepared}
use Rattle.ch_overlay.specs.Source.{row_in, row_of, IsSeenRow, NamesAlone}
use Rattle.ch_contract.specs.Ledger.{Ledger, AreLawful, row_now}
use Rattle.ch_contract.specs.Proposal.{Proposal, ShortcutBefore}
use Rattle.ch_contract.specs.Commit.{IsRowOf}
use Rattle.ch_contract.specs.Ready.{AreAnswered, IsReadyFor, FitsLedger, Ready, RowsRise}

-- The first answer of a node

passed : (test : Bool) (q : Row) (rest : Option Row) → cond test (Some q) rest ≡ None → (test ≡ false) × (rest ≡ None)
passed true q rest is = absurd (cc)
passed false q rest is = (refl, is)

-- a list without an answer of the node says nothing of it
pub found_behind : (front back : List Seen) (x : ℕ) → row_of front x ≡ None → row_of (front ++ back) x ≡ row_of back x
found_behind [] back x is = refl
found_behind (s ∷ front) back x is =
    let test = passed (nat_eq s.node x) (row_in s) (row_of front x) is in
    rw (test.0) (found_behind front back x test.1)

picked : (test : Bool) (q r : Row) (rest more : Option Row) → cond test (Some q) rest ≡ Some r → (rest ≡ Some r → more ≡ Some r) → cond test (Some q) more ≡ Some r
picked true q r rest more is later = is
picked false q r rest more is later = later is

-- and one that has an answer has it with others behind
pub found_before : (front back : List Seen) (x : ℕ) (r : Row) → row_of front x ≡ Some r → row_of (front ++ back) x ≡ Some r
found_before [] back x r is = absurd (cc)
found_before (s ∷ front) back x r is = picked (nat_eq s.node x) (row_in s) r (row_of front x) (row_of (front ++ back) x) is (found_before front back x r)

pub found_first : (s : Seen) (rest : List Seen) (x : ℕ) → s.node ≡ x → row_of (s ∷ rest) x ≡ Some (row_in s)
found_first s rest x e =
    let test : nat_eq s.node x ≡ true = grind (arith, nat_tests, e) in
    rw test refl

found_later : (s : Seen) (x : ℕ) → s.node ≢ x → row_of (s ∷ []) x ≡ None
found_later s x other =
    let test : nat_eq s.node x ≡ false = grind (arith, nat_tests, other) in
    rw test refl

module _ (seen : List Seen) (i : ℕ) (s : Seen) (x : ℕ) (low : i < length seen) (is : s ≡ get_or seen i s) (none : row_of (take i seen) x ≡ None) where
  -- so a search goes on from an answer of another node
  pub none_more : s.node ≢ x → row_of (take (i + 1) seen) x ≡ None
  none_more other =
      ap (λ (ss : List Seen). row_of ss x) (take_more seen i s low ∙ ap (λ (t : Seen). take i seen ++ t ∷ []) (sym is))
      ∙ found_behind (take i seen) (s ∷ []) x none ∙ found_later s x other

  -- and ends at the first
  pub some_here : s.node ≡ x → row_of seen x ≡ Some (row_in s)
  some_here e =
      ap (λ (ss : List Seen). row_of ss x) (sym (take-append-drop i seen) ∙ ap (λ (rest : List Seen). take i seen ++ rest) (drop_more seen i s low ∙ ap (λ (t : Seen). t ∷ drop (i + 1) seen) (sym is)))
      ∙ found_behind (take i seen) (s ∷ drop (i + 1) seen) x none ∙ found_first s (drop (i + 1) seen) x e

-- Answers of several nodes

some_is : (o : Option Row) (r : Row) → o ≡ Some r → IsSome o
some_is o r is = ap is_some is

some_of : (o : Option Row) → IsSome o → (r : Row) × (o ≡ Some r)
some_of (Some r) is = (r, refl)
some_of None is = absurd (cc)

-- what a search of a list says of the list
pub answered_in : {B : Type 0} (o : Option B) (now : B → Row) (a : Option Row) → IfSome o (λ r. a ≡ Some (now r)) → is_some o ≡ true → IsSome a
answered_in (Some r) now a is some = some_is a (now r) is
answered_in None now a is some = absurd (cc)

-- and of others behind it
pub answered_front : (front back : List Seen) (x : ℕ) → IsSome (row_of front x) → IsSome (row_of (front ++ back) x)
answered_front front back x is =
    let here = some_of (row_of front x) is in
    some_is _ here.0 (found_before front back x here.0 here.1)

-- one more answer keeps the others, and adds its own
pub answered_more : (seen : List Seen) (s : Seen) (nodes : List ℕ) → AreAnswered seen nodes → AreAnswered (seen ++ s ∷ []) nodes
answered_more seen s nodes are k d h =
    let here = some_of (row_of seen (get_or nodes k d)) (are k d h) in
    some_is _ here.0 (found_before seen (s ∷ []) (get_or nodes k d) here.0 here.1)

pub answered_by : (seen : List Seen) (s : Seen) (x : ℕ) → s.node ≡ x → IsSome (row_of (seen ++ s ∷ []) x)
answered_by seen s x e = pick (row_of seen x) refl where
  pick : (o : Option Row) → row_of seen x ≡ o → IsSome (row_of (seen ++ s ∷ []) x)
  pick (Some r) is = some_is _ r (found_before seen (s ∷ []) x r is)
  pick None is = some_is _ (row_in s) (found_behind seen (s ∷ []) x is ∙ found_first s [] x e)

-- The rows rise

pub seen_rise : (bound : Cost) (seen : List Seen) → All (IsSeenRow bound) seen → RowsRise seen
seen_rise bound seen are k d h = ((are k d h).out_rises, (are k d h).inn_rises)

pub rows_rise : (seen : List Seen) → RowsRise seen → (x : ℕ) (r : Row) → row_of seen x ≡ Some r → Rises r.out × Rises r.inn
rows_rise seen rise x r is =
    let found = row_among seen x r is in
    subst (λ (q : Row). Rises q.out × Rises q.inn) found.3 (All-contains (λ (s : Seen). Rises (row_in s).out × Rises (row_in s).inn) seen found.0 rise found.1)

-- what a row names is of a kind where the row names such nodes alone
pub named_alone : (IsKind : ℕ → Type 0) (row : Row) (nodes : List ℕ) → AreNamed row nodes → NamesAlone IsKind row → All IsKind nodes
named_alone IsKind row nodes named alone k d h =
    let found = (named.named (get_or nodes k d)).0 (Contains-get_or nodes k d h) in
    subst IsKind found.2 (elim found.1 [
      | inl out ↦ All-contains (λ (e : Entry). IsKind e.other) row.out found.0 alone.out out
      | inr inn ↦ All-contains (λ (e : Entry). IsKind e.other) row.inn found.0 alone.inn inn
    ])

-- shortcuts by their ends are for different pairs
pub sorted_once : (put : List Shortcut) → AllPairs ShortcutBefore put → AllPairs (λ p q. IsFor p q.from q.to → ⊥) put
sorted_once put sorted i j d less low is = elim (sorted i j d less low) [
  | inl before ↦ absurd (omega (arith, before, is.0))
  | inr same ↦ absurd (omega (arith, same.1, is.1))
]

-- New rows that were made by these

to_map : {X Y : Type 0} (P : Y → Type 0) (f : X → Y) (xs : List X) → All (λ x. P (f x)) xs → All P (map f xs)
to_map P f [] all = λ k d h. absurd (omega (arith, h))
to_map {X} P f (x ∷ xs) all = All-cons P (f x) (map f xs) (All-head (λ (y : X). P (f y)) x xs all) (to_map P f xs (All-tail (λ (y : X). P (f y)) x xs all))

module _ {B : Type 0} (p : Proposal) (prepared : Prepared) (beside : List Seen) (row : Row) (near : List (ℕ × B)) (now : B → Row) where
  pub is_ready : row_of p.rests_on p.node ≡ Some row → AreNamed row (map (λ (a : ℕ × B). a.0) near) → All (λ (a : ℕ × B). row_of (p.rests_on ++ beside) a.0 ≡ Some (now a.1)) near
      → IsPrepared p.node row (map (λ (a : ℕ × B). (a.0, now a.1)) near) p.shortcuts prepared → IsReadyFor p (record { prepared = prepared; beside = beside })
  is_ready read named rows made = record {
    row = row;
    read = read;
    near = map (λ (a : ℕ × B). (a.0, now a.1)) near;
    rows = to_map (λ (a : ℕ × Row). row_of (p.rests_on ++ beside) a.0 ≡ Some a.1) (λ (a : ℕ × B). (a.0, now a.1)) near rows;
    named = subst (λ (ns : List ℕ). AreNamed row ns) (sym (map-map (λ (a : ℕ × B). (a.0, now a.1)) (λ (a : ℕ × Row). a.0) near)) named;
    made = made;
  }

-- New rows fit a ledger whose rows they were made by

module _ (l : Ledger) (p : Proposal) (r : Ready) (is : IsReadyFor p r) (rests_on : All (IsRowOf l) p.rests_on) (beside : All (IsRowOf l) r.beside) (lawful : AreLawful l p.node p.shortcuts) where
  current : (x : ℕ) (q : Row) → row_of (p.rests_on ++ r.beside) x ≡ Some q → q ≡ row_now l x
  current x q found =
      let s = row_among (p.rests_on ++ r.beside) x q found in
      let here = All-contains (IsRowOf l) (p.rests_on ++ r.beside) s.0 (All-append (IsRowOf l) p.rests_on r.beside rests_on beside) s.1 in
      sym s.3 ∙ here.same ∙ ap (row_now l) s.2

  own : is.row ≡ row_now l r.prepared.node
  own = current p.node is.row (found_before p.rests_on r.beside p.node is.row is.read) ∙ ap (row_now l) (sym is.made.of_node)

  pub fits : FitsLedger l p.node p.shortcuts r.prepared
  fits = (
    is.made.of_node,
    record {
      plan = subst (λ n. IsPlan l.overlay.bound (state_of l.overlay) n p.shortcuts) (sym is.made.of_node) lawful.plan;
      near = is.near;
      made = subst (λ n. IsPrepared n (row_now l r.prepared.node) is.near p.shortcuts r.prepared) (sym is.made.of_node) (subst (λ (q : Row). IsPrepared p.node q is.near p.shortcuts r.prepared) own is.made);
      rows = λ k d h. current _ _ (is.rows k d h);
      named = subst (λ (q : Row). AreNamed q (map (λ (a : ℕ × Row). a.0) is.near)) own is.named;
    },
  )
