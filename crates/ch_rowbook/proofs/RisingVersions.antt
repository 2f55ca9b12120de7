-- Versions that rise.
use Rattle.std.specs.Prelude.{ℕ, ◌≡◌, ◌+◌, ◌<◌, ◌≤◌, List, [], ◌∷◌, ◌++◌, All, length, slice_index, slice_index_or, refl}
use Rattle.std.proofs.Common.{suc, ◌∙◌, sym, subst, ap, arith, set, drop, inl, inr}
use Rattle.std.proofs.lemmas.Bool.{cases_eq, cases_lt}
use Rattle.std.proofs.lemmas.List.{get_or-set_same, get_or-set_other, get_or_append_left, length-set, map-append}
use Rattle.std.proofs.Math.Seq.{drop-cons, get_or-append_seam}
use Rattle.boxcar.specs.Table.{Shelves, Where}
use Rattle.ch_laws.specs.Rows.{Row}
use Rattle.ch_overlay.specs.declared.record.Record.{Record}
use Rattle.ch_rowbook.specs.Books.{versions_of}
use Rattle.ch_rowbook.specs.Showing.{IsRecordOf, IsRising, IsShowable, next_behind}

-- one version more
pub rising_more : (low : ℕ) (vs : List ℕ) (mid v : ℕ) → IsRising low vs mid → mid ≤ v → IsRising low (vs ++ v ∷ []) (v + 1)
rising_more low [] mid v h k = (omega (arith, h, k), omega arith)
rising_more low (w ∷ vs) mid v h k = (h.0, rising_more (w + 1) vs mid v h.1 k)

pub rising_high : (low : ℕ) (vs : List ℕ) (high : ℕ) → IsRising low vs high → low ≤ high
rising_high low [] high h = h
rising_high low (v ∷ vs) high h = let rest : v + 1 ≤ high = rising_high (v + 1) vs high h.1 in let first = h.0 in omega (arith, rest, first)

-- a greater version is stored
pub below_stored : (current : List ℕ) (low x v : ℕ) → All (λ w. w < low) current → low ≤ v → All (λ w. w < v + 1) (set current x v)
below_stored current low x v below h k d less = elim (cases_eq k x) [
  | inl e ↦
      let here : x < length current = let long = length-set current x v in omega (arith, less, long, e) in
      let at : slice_index_or (set current x v) k d ≡ v = ap (λ (i : ℕ). slice_index_or (set current x v) i d) e ∙ get_or-set_same current x v d here in
      omega (arith, at)
  | inr apart ↦
      let within : k < length current = let long = length-set current x v in omega (arith, less, long) in
      let at : slice_index_or (set current x v) k d ≡ slice_index_or current k d = get_or-set_other current x k v d apart in
      let old : slice_index_or current k d < low = below k d within in
      omega (arith, at, old, h)
]

pub show_above : (current : List ℕ) (next node v : ℕ) (rest : List ℕ) → IsShowable current next (v ∷ rest) → node < length current → slice_index current node < v
show_above current next node v rest s less = let low : slice_index current node < s.low = s.below node 0 less in let first = s.rising.0 in omega (arith, low, first)

pub show_laid : (current : List ℕ) (next v : ℕ) (rest : List ℕ) → IsShowable current next (v ∷ rest) → v < next
show_laid current next v rest s = let high : v + 1 ≤ next = rising_high (v + 1) rest next s.rising.1 in omega (arith, high)

pub show_rest : (current : List ℕ) (next node v : ℕ) (rest : List ℕ) → IsShowable current next (v ∷ rest) → IsShowable (set current node v) next rest
show_rest current next node v rest s = record { low = v + 1; below = below_stored current s.low node v s.below s.rising.0; rising = s.rising.1 }

-- the elements from a place on
pub dropped : {X : Type 0} (xs : List X) (at : ℕ) (x : X) → at < length xs → x ≡ slice_index_or xs at x → drop at xs ≡ x ∷ drop (at + 1) xs
dropped xs at x less is =
    let next : suc at ≡ at + 1 = omega arith in
    drop-cons xs at x less ∙ ap (λ y. y ∷ drop (suc at) xs) (sym is) ∙ ap (λ (n : ℕ). x ∷ drop n xs) next

-- the next version behind one more
pub next_more : (next : ℕ) (vs : List ℕ) (v : ℕ) → next_behind next (vs ++ v ∷ []) ≡ v + 1
next_more next [] v = refl
next_more next (w ∷ vs) v = next_more (w + 1) vs v

pub next_laid : (next : ℕ) (laid : List (Where Record)) (t : Where Record) → next_behind next (versions_of (laid ++ t ∷ [])) ≡ t.index + 1
next_laid next laid t = ap (λ (vs : List ℕ). next_behind next vs) (map-append (λ (u : Where Record). u.index) laid (t ∷ [])) ∙ next_more next (versions_of laid) t.index

-- one record more
pub laid_more : (list : Shelves) (row : ℕ → ℕ × Row) (k : ℕ) (laid : List (Where Record)) (t : Where Record) → length laid ≡ k
    → ((j : ℕ) (d : Where Record) → j < k → IsRecordOf list (row j) (slice_index_or laid j d)) → IsRecordOf list (row k) t
    → (j : ℕ) (d : Where Record) → j < k + 1 → IsRecordOf list (row j) (slice_index_or (laid ++ t ∷ []) j d)
laid_more list row k laid t count earlier of j d less = elim (cases_lt j k) [
  | inl before ↦
      let here : j < length laid = omega (arith, count, before) in
      subst (λ (u : Where Record). IsRecordOf list (row j) u) (sym (get_or_append_left laid (t ∷ []) d j here)) (earlier j d before)
  | inr past ↦
      let is : j ≡ length laid = omega (arith, count, past, less) in
      let at : j ≡ k = omega (arith, past, less) in
      subst (λ (u : Where Record). IsRecordOf list (row j) u) (sym (ap (λ (i : ℕ). slice_index_or (laid ++ t ∷ []) i d) is ∙ get_or-append_seam laid t [] d)) (subst (λ (i : ℕ). IsRecordOf list (row i) t) (sym at) of)
]
