-- The book after a contraction: it has the rows that are current then, and all that it had.
use Rattle.std.proofs.Common.{ℕ, ◌≡◌, ◌+◌, ◌<◌, List, [], ◌∷◌, ◌++◌, length, map, set, slice_index, arith, sym, subst, ◌∙◌, inl, inr, append_assoc}
use Rattle.std.specs.List.{zip, range_with_len}
use Rattle.std.proofs.lemmas.Bool.{cases_eq}
use Rattle.std.proofs.lemmas.List.{length-set, get_or-set_same, get_or-set_other, get_or_append_left, get_or_push, length-append, append-nil}
use Rattle.ch_laws.specs.Rows.{Row}
use Rattle.ch_overlay.specs.Overlay.{row_at, no_arcs}
use Rattle.ch_overlay.specs.Change.{puts}
use Rattle.ch_core.specs.World.{RowVersion, IsIn, version_of}

-- what a book has it has when it is longer
pub still_in : (book more : List RowVersion) (x v : ℕ) (r : Row) → IsIn book x v r → IsIn (book ++ more) x v r
still_in book more x v r listed = record {
  within = omega (arith, length-append book more, listed.within);
  here = get_or_append_left book more (record { node = 0; row = no_arcs }) v listed.within ∙ listed.here;
}

-- the rows are in the book at their versions
abbrev pub AreIn : List RowVersion → List Row → List ℕ → Type 0
AreIn book rows versions = (x : ℕ) → x < length rows → IsIn book x (slice_index versions x) (row_at rows x)

-- one row is written, with the version at the end of the book
put_in : (book : List RowVersion) (rows : List Row) (versions : List ℕ) (n : ℕ) (p : ℕ × Row) → length versions ≡ length rows → length book ≡ n → AreIn book rows versions → AreIn (book ++ version_of p ∷ []) (set rows p.0 p.1) (set versions p.0 n)
put_in book rows versions n p many long are x inside =
    let low : x < length rows = omega (arith, length-set rows p.0 p.1, inside) in
    elim (cases_eq x p.0) [
      | inl same ↦
          let place : p.0 < length rows = omega (arith, same, low) in
          let in_versions : p.0 < length versions = omega (arith, place, many) in
          let row_is : row_at (set rows p.0 p.1) p.0 ≡ p.1 = get_or-set_same rows p.0 p.1 no_arcs place in
          let version_is : slice_index (set versions p.0 n) p.0 ≡ n = get_or-set_same versions p.0 n 0 in_versions in
          let at_end : IsIn (book ++ version_of p ∷ []) p.0 n p.1 = record {
            within = omega (arith, length-append book (version_of p ∷ []), long);
            here = get_or_push book (version_of p) (record { node = 0; row = no_arcs }) n long;
          } in
          subst (λ y. IsIn (book ++ version_of p ∷ []) y (slice_index (set versions p.0 n) y) (row_at (set rows p.0 p.1) y)) (sym same)
          (subst (λ v. IsIn (book ++ version_of p ∷ []) p.0 v (row_at (set rows p.0 p.1) p.0)) (sym version_is)
          (subst (λ (r : Row). IsIn (book ++ version_of p ∷ []) p.0 n r) (sym row_is) at_end))
      | inr apart ↦
          let row_is : row_at (set rows p.0 p.1) x ≡ row_at rows x = get_or-set_other rows p.0 x p.1 no_arcs apart in
          let version_is : slice_index (set versions p.0 n) x ≡ slice_index versions x = get_or-set_other versions p.0 x n 0 apart in
          subst (λ v. IsIn (book ++ version_of p ∷ []) x v (row_at (set rows p.0 p.1) x)) (sym version_is)
          (subst (λ (r : Row). IsIn (book ++ version_of p ∷ []) x (slice_index versions x) r) (sym row_is)
          (still_in book (version_of p ∷ []) x (slice_index versions x) (row_at rows x) (are x low)))
    ]

-- all are, one after the other
pub puts_in : (ps : List (ℕ × Row)) (book : List RowVersion) (rows : List Row) (versions : List ℕ) (n : ℕ) → length versions ≡ length rows
    → length book ≡ n → AreIn book rows versions → AreIn (book ++ map version_of ps) (puts rows ps)
    (puts versions (zip (map (λ a. a.0) ps) (range_with_len n (length ps))))
puts_in [] book rows versions n many long are = λ x inside.
    subst (λ (b : List RowVersion). IsIn b x (slice_index versions x) (row_at rows x)) (sym (append-nil book)) (are x inside)
puts_in (p ∷ ps) book rows versions n many long are =
    let shorter : AreIn ((book ++ version_of p ∷ []) ++ map version_of ps) (puts (set rows p.0 p.1) ps) (puts (set versions p.0 n) (zip (map (λ a. a.0) ps) (range_with_len (n + 1) (length ps)))) =
    puts_in ps (book ++ version_of p ∷ []) (set rows p.0 p.1) (set versions p.0 n) (n + 1)
    (omega (arith, length-set versions p.0 n, length-set rows p.0 p.1, many))
    (omega (arith, length-append book (version_of p ∷ []), long))
    (put_in book rows versions n p many long are) in
    subst (λ (b : List RowVersion). AreIn b (puts (set rows p.0 p.1) ps) (puts (set versions p.0 n) (zip (map (λ a. a.0) ps) (range_with_len (n + 1) (length ps))))) (append_assoc book (version_of p ∷ []) (map version_of ps)) shorter
