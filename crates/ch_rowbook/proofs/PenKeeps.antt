-- What a pen keeps as it lays and shows.
use Rattle.std.specs.Prelude.{ℕ, ◌≡◌, ◌+◌, ◌<◌, ◌≤◌, List, [], ◌∷◌, ◌++◌, All, length, map, slice_index, slice_index_or, refl}
use Rattle.std.proofs.Common.{zero, suc, ◌∙◌, sym, subst, ap, arith, get_or, set, inl, inr}
use Rattle.std.proofs.lemmas.Bool.{cases_eq, cases_lt}
use Rattle.std.proofs.lemmas.List.{get_or-map, get_or-set_same, get_or-set_other, get_or_append_left, length-map, length-set}
use Rattle.std.proofs.Math.Seq.{get_or-append_seam}
use Rattle.ch_cost.specs.declared.cost.Cost.{Cost}
use Rattle.ch_laws.specs.Rows.{Row, no_arcs, row_at}
use Rattle.boxcar.specs.Table.{Shelves, Where}
use Rattle.atomic_table.specs.declared.shared.Seat.{Seat}
use Rattle.ch_overlay.specs.declared.record.Record.{Record}
use Rattle.ch_rowbook.specs.declared.words.KnownWords.{KnownWords}
use Rattle.ch_rowbook.specs.Books.{AreOf, BookName, IsOf, IsPenSeat, PenKeeps, versions_of}
use Rattle.ch_overlay.specs.Records.{AreSoundRows, IsSoundRow}

pub map_set : {X Y : Type 0} (f : X → Y) (xs : List X) (i : ℕ) (y : X) → map f (set xs i y) ≡ set (map f xs) i (f y)
map_set f [] i y = refl
map_set f (x ∷ xs) zero y = refl
map_set f (x ∷ xs) (suc i) y = ap (λ (l : List _). f x ∷ l) (map_set f xs i y)

version_below : (current : List (Where Record)) (x next e : ℕ) → x < length current → ((d : Where Record) → (slice_index_or current x d).index < next) → get_or (versions_of current) x e < next
version_below [] x next e less h = absurd (omega (arith, less))
version_below (t ∷ ts) zero next e less h = h t
version_below (t ∷ ts) (suc x) next e less h = version_below ts x next e (omega (arith, less)) (λ d. h d)

-- each current version is below the next
pub current_below : (book : BookName) (seat : Seat (Unit {0}) KnownWords) (next : ℕ) (current : List (Where Record)) (x : ℕ) → PenKeeps book seat next current → x < book.nodes
    → slice_index (versions_of current) x < next
current_below book seat next current x k less = version_below current x next 0 (subst (λ n. x < n) (sym k.count) less) (λ d. (k.tokens x d less).below)

pub all_below : (book : BookName) (seat : Seat (Unit {0}) KnownWords) (next : ℕ) (current : List (Where Record)) → PenKeeps book seat next current → All (λ v. v < next) (versions_of current)
all_below book seat next current k x d less =
    let within : x < length current = subst (λ n. x < n) (length-map current (λ (t : Where Record). t.index)) less in
    version_below current x next d within (λ e. (k.tokens x e (subst (λ n. x < n) k.count within)).below)

-- one number written at one place of two lists
set_alike : (xs ys : List ℕ) (x v j : ℕ) → x < length xs → x < length ys → get_or xs j 0 ≡ get_or ys j 0 → get_or (set xs x v) j 0 ≡ get_or (set ys x v) j 0
set_alike xs ys x v j in_xs in_ys same = elim (cases_eq j x) [
  | inl e ↦ subst (λ k. get_or (set xs x v) k 0 ≡ get_or (set ys x v) k 0) (sym e) (get_or-set_same xs x v 0 in_xs ∙ sym (get_or-set_same ys x v 0 in_ys))
  | inr apart ↦ get_or-set_other xs x j v 0 apart ∙ same ∙ sym (get_or-set_other ys x j v 0 apart)
]

-- a store, and the token in its node's place
pub pen_shows : (book : BookName) (old new : Seat (Unit {0}) KnownWords) (next : ℕ) (current : List (Where Record)) (x : ℕ) (t : Where Record) → PenKeeps book old next current → IsPenSeat book new
    → new.me.0.versions ≡ set old.me.0.versions x t.index → IsOf book.list next x t → x < book.nodes → PenKeeps book new next (set current x t)
pen_shows book old new next current x t k seated stored of less =
    let versions = old.me.0.versions in
    let in_versions : x < length versions = let wide = k.seated.wide in omega (arith, wide, less) in
    let in_current : x < length current = subst (λ n. x < n) (sym k.count) less in
    let in_shown : x < length (versions_of current) = subst (λ n. x < n) (sym (length-map current (λ (t : Where Record). t.index))) in_current in
    record {
      seated = seated;
      count = length-set current x t ∙ k.count;
      words = λ j h. ap (λ (l : List ℕ). slice_index l j) stored ∙ set_alike versions (versions_of current) x t.index j in_versions in_shown (k.words j h) ∙ ap (λ (l : List ℕ). slice_index l j) (sym (map_set (λ (t : Where Record). t.index) current x t));
      tokens = λ j d h. elim (cases_eq j x) [
        | inl e ↦ subst (λ (u : ℕ). IsOf book.list next u (slice_index_or (set current x t) u d)) (sym e) (subst (λ (u : Where Record). IsOf book.list next x u) (sym (get_or-set_same current x t d in_current)) of)
        | inr apart ↦ subst (λ (u : Where Record). IsOf book.list next j u) (sym (get_or-set_other current x j t d apart)) (k.tokens j d h)
      ];
    }

-- one token more
pub tokens_more : (list : Shelves) (next later node : ℕ) (current : List (Where Record)) (t : Where Record) → length current ≡ node → AreOf list next node current → next ≤ later → IsOf list later node t
    → AreOf list later (node + 1) (current ++ t ∷ [])
tokens_more list next later node current t count tokens h of x d less = elim (cases_lt x node) [
  | inl before ↦
      let old : IsOf list next x (slice_index_or current x d) = tokens x d before in
      let here : x < length current = omega (arith, count, before) in
      let below : (slice_index_or current x d).index < later = let b = old.below in omega (arith, b, h) in
      subst (λ (u : Where Record). IsOf list later x u) (sym (get_or_append_left current (t ∷ []) d x here)) record { shown = old.shown; node = old.node; below = below }
  | inr past ↦
      let is : x ≡ length current = omega (arith, count, past, less) in
      let at : x ≡ node = omega (arith, past, less) in
      subst (λ (u : Where Record). IsOf list later x u) (sym (ap (λ (k : ℕ). slice_index_or (current ++ t ∷ []) k d) is ∙ get_or-append_seam current t [] d)) (subst (λ (k : ℕ). IsOf list later k t) (sym at) of)
]

-- a row of a list of rows that can be relied on
pub sound_at : {X : Type 0} (f : X → Row) (bound : Cost) (rows : List X) (x : ℕ) (d : X) (row : Row) → AreSoundRows bound (map f rows) → x < length rows → row ≡ f (slice_index_or rows x d) → IsSoundRow bound x row
sound_at f bound rows x d row sound less is =
    let in_map : x < length (map f rows) = subst (λ n. x < n) (sym (length-map rows f)) less in
    let at : row_at (map f rows) x ≡ f (slice_index_or rows x d) = get_or-map f rows x d no_arcs less in
    subst (λ (r : Row). IsSoundRow bound x r) (at ∙ sym is) (sound x in_map)
