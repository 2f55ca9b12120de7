-- A table with sums, so many rows at a time.
use Rattle.std.proofs.Common.{ℕ, ◌≡◌, ◌+◌, ◌-◌, ◌*◌, ◌/◌, ◌%◌, ◌<◌, ◌≤◌, ◌∙◌, List, [], ◌∷◌, ◌++◌, drop, length, get_or, set as put_at, slice_index, take, Option, Some, None, All, ap, refl, sym, subst, inl, inr, arith}
use Rattle.std.proofs.lemmas.Bool.{cases_eq, cases_lt}
use Rattle.std.proofs.lemmas.List.{get_or-drop, get_or-set_same, get_or-set_other, get_or-take, length-drop, length-set, length-take-le}
use Rattle.std.proofs.Math.Seq.{take-append_seam}
use Rattle.std.proofs.Math.Nat.{add-mul, div-add-mod, div-lt_iff_lt-mul, mod-lt, mul_comm}
use Rattle.ch_cost.specs.declared.cost.Cost.{Cost}
use Rattle.ch_cost.specs.Cost.{length_of}
use Rattle.ch_cost.specs.Cost.Laws.{length_of-at_most}
use Rattle.ch_graph.specs.Hierarchy.{Hierarchy, IsValue, IsWellMade}
use Rattle.ch_route.specs.Laws.{LengthsAreLeast, LengthsAreLeastByWeight}
use Rattle.ch_sums.specs.Numbers.{SummedWaysAreAlong}
use Rattle.ch_table.specs.Lengths.{AreRows, IsLengthFrom, length_or_none}
use Rattle.ch_table.specs.Sums.{IsSumFrom, IsSumOrNone as IsSumOr}
use Rattle.ch_query.specs.Ways.{free}
use Rattle.domethyme_c.specs.Summing.{ArePut}
use Rattle.domethyme_c.specs.Sums.{AreCells, IsCellOf, IsSumOrNone}
use Rattle.domethyme_c.specs.declared.code.TheConstants.{NO_LENGTH}
use Rattle.domethyme_c.specs.declared.sums.SumInfo.{SumInfo}
use Rattle.domethyme_c.proofs.Cells.{sum-or-none}

-- Cells are written one by one
module _ {lengths sums : List ℕ} {from : ℕ} where
  pub put-none : (cells : List SumInfo) → ArePut lengths sums 0 from cells cells
  put-none cells = record {
    room = refl;
    each = λ k d low. absurd (omega (arith, low));
    before = λ k d low. refl;
    after = λ k d high. refl;
  }

  pub put-more : (n : ℕ) (old now : List SumInfo) (cell : SumInfo) → cell ≡ record { length = slice_index lengths n; sum = slice_index sums n } → from + n < length now → ArePut lengths sums n from old now → ArePut lengths sums (n + 1) from old (put_at now (from + n) cell)
  put-more n old now cell is within was = record {
    room = length-set now (from + n) cell ∙ was.room;
    each = λ k d low. elim (cases_eq k n) [
      | inl here ↦ subst (λ j. get_or (put_at now (from + n) cell) (from + j) d ≡ record { length = slice_index lengths j; sum = slice_index sums j }) (sym here) (get_or-set_same now (from + n) cell d within ∙ is)
      | inr other ↦
          let apart : from + k ≡ from + n → ⊥ = λ same. other (omega (arith, same)) in
          get_or-set_other now (from + n) (from + k) cell d apart ∙ was.each k d (omega (arith, low, other))
    ];
    before = λ k d low.
        let apart : k ≡ from + n → ⊥ = λ same. omega (arith, same, low) in
        get_or-set_other now (from + n) k cell d apart ∙ was.before k d low;
    after = λ k d high.
        let apart : k ≡ from + n → ⊥ = λ same. omega (arith, same, high) in
        get_or-set_other now (from + n) k cell d apart ∙ was.after k d (omega (arith, high));
  }

-- The least length is one
module _ (h : Hierarchy) (s t : ℕ) where
  same-length : (v w : Option Cost) → IsValue h s t v → IsValue h s t w → length_or_none v ≡ length_or_none w
  same-length None None one two = refl
  same-length None (Some d) one two = absurd (one d two.0)
  same-length (Some c) None one two = absurd (two c one.0)
  same-length (Some c) (Some d) one two = omega (arith, length_of-at_most (one.1 d two.0), length_of-at_most (two.1 c one.0))

-- What is found of a pair
module _ (along : SummedWaysAreAlong) (least : LengthsAreLeast) (by_weight : LengthsAreLeastByWeight) (h : Hierarchy) (made : IsWellMade h) (set : List ℕ) where
  abbrev numbers : List ℕ
  numbers = drop 1 set

  pub pair-cell : (s t : ℕ) → s < length h.ranks → t < length h.ranks → (n m : ℕ) → IsLengthFrom h s t n → IsSumFrom h numbers s t m → IsSumOrNone h set s t (record { length = n; sum = m })
  pair-cell s t s_in t_in n m length sum = by_cost sum.cost sum.is sum.sum
    where
      same : (v : Option Cost) → IsValue h s t v → n ≡ length_or_none v
      same v value = length.written ∙ same-length h s t length.cost v length.is value

      by_cost : (v : Option Cost) → IsValue h s t v → IsSumOr h numbers (free s ∷ []) t m v → IsSumOrNone h set s t (record { length = n; sum = m })
      by_cost None value is =
          sum-or-none h set s t None least by_weight s_in t_in (record { value = None; least = value; long = refl })
          (λ given g number is right told. (along g h number numbers s t right made (is.numbers.sums number told) s_in t_in).1 value) _
          (ap (λ x. record { length = x; sum = m }) (same None value) ∙ ap (λ x. record { length = NO_LENGTH; sum = x }) is) (λ some. absurd (some (same None value)))
      by_cost (Some c) value way =
          sum-or-none h set s t (Some (record { length = length_of c; sum = m })) least by_weight s_in t_in (record { value = Some c; least = value; long = refl })
          (λ given g number is right told. (along g h number numbers s t right made (is.numbers.sums number told) s_in t_in).0 c m value way.0) _
          (ap (λ x. record { length = x; sum = m }) (same (Some c) value)) (λ some. way.1)

  -- a row from one node
  pub one-cells : (node : ℕ) (targets : List ℕ) → node < length h.ranks → All (λ t. t < length h.ranks) targets → (lengths row sums others : List ℕ) (k : Hierarchy) (own : List ℕ) → k ≡ h → own ≡ numbers
      → AreRows (IsLengthFrom k) (node ∷ []) targets 0 1 lengths row → AreRows (IsSumFrom k own) (node ∷ []) targets 0 1 sums others
      → (p : ℕ) → p < length targets → IsSumOrNone h set node (slice_index targets p) (record { length = slice_index row p; sum = slice_index others p })
  one-cells node targets s_in t_in lengths row sums others k own same are rows sum_rows p low =
      let at : 0 + (0 * length targets + p) ≡ p = omega arith in
      let length_is = subst (λ x. IsLengthFrom k node (slice_index targets p) (slice_index row x)) at (rows.each 0 p (omega arith) low) in
      let sum_is = subst (λ x. IsSumFrom k own node (slice_index targets p) (slice_index others x)) at (sum_rows.each 0 p (omega arith) low) in
      pair-cell node (slice_index targets p) s_in (t_in p 0 low) (slice_index row p) (slice_index others p)
      (subst (λ (g : Hierarchy). IsLengthFrom g node (slice_index targets p) (slice_index row p)) same length_is)
      (subst (λ (ns : List ℕ). IsSumFrom h ns node (slice_index targets p) (slice_index others p)) are (subst (λ (g : Hierarchy). IsSumFrom g own node (slice_index targets p) (slice_index others p)) same sum_is))

  -- more rows, those of the next sources
  module _ (sources targets block : List ℕ) (sources_in : All (λ s. s < length h.ranks) sources) (targets_in : All (λ t. t < length h.ranks) targets) (done count : ℕ) (within : done + count ≤ length sources) (same : (i : ℕ) → i < count → slice_index block i ≡ slice_index sources (done + i)) where
    pub cells-band : (lengths new_lengths sums new_sums : List ℕ) (old mid new : List SumInfo) → AreRows (IsLengthFrom h) block targets 0 count lengths new_lengths → AreRows (IsSumFrom h numbers) block targets 0 count sums new_sums
        → ArePut new_lengths new_sums (count * length targets) (done * length targets) mid new → AreCells (done * length targets) (IsCellOf h set sources targets) old mid → AreCells ((done + count) * length targets) (IsCellOf h set sources targets) old new
    cells-band lengths new_lengths sums new_sums old mid new rows sum_rows put was = record {
      room = put.room ∙ was.room;
      each = λ k d low. elim (cases_lt k (done * length targets)) [
        | inl before ↦ subst (IsCellOf h set sources targets k) (sym (put.before k d before)) (was.each k d before)
        | inr from ↦ here k d low from
      ];
      rest = λ k d high. put.after k d (omega (arith, parts, high)) ∙ was.rest k d (omega (arith, parts, high));
    }
      where
        parts : (done + count) * length targets ≡ done * length targets + count * length targets
        parts = add-mul done count (length targets)

        some : (k : ℕ) → k < (done + count) * length targets → 0 < length targets
        some k low = elim (cases_lt 0 (length targets)) [
          | inl more ↦ more
          | inr none ↦
              let zero_wide : length targets ≡ 0 = omega (arith, none) in
              let empty : (done + count) * length targets ≡ (done + count) * 0 = ap (λ w. (done + count) * w) zero_wide in
              absurd (omega (arith, low, empty))
        ]

        here : (k : ℕ) (d : SumInfo) → k < (done + count) * length targets → done * length targets ≤ k → IsCellOf h set sources targets k (get_or new k d)
        here k d low from =
            let wide : 0 < length targets = some k low in
            let row_in : k / length targets < done + count = (div-lt_iff_lt-mul {k = length targets} {x = k} {y = done + count} wide).1 low in
            let row_from : done ≤ k / length targets = elim (cases_lt (k / length targets) done) [
              | inl early ↦ absurd (omega (arith, from, (div-lt_iff_lt-mul {k = length targets} {x = k} {y = done} wide).0 early))
              | inr late ↦ late
            ] in
            let i : ℕ = k / length targets - done in
            let j : ℕ = k % length targets in
            let i_in : k / length targets - done < count = omega (arith, row_in, row_from) in
            let j_in : k % length targets < length targets = mod-lt k {m = length targets} wide in
            let whole : done + (k / length targets - done) ≡ k / length targets = omega (arith, row_from) in
            let rows_are : (k / length targets) * length targets ≡ done * length targets + (k / length targets - done) * length targets = ap (λ x. x * length targets) (sym whole) ∙ add-mul done (k / length targets - done) (length targets) in
            let place : k ≡ (k / length targets) * length targets + k % length targets = omega (arith, div-add-mod k (length targets), mul_comm (length targets) (k / length targets)) in
            let at : done * length targets + ((k / length targets - done) * length targets + k % length targets) ≡ k = omega (arith, rows_are, place) in
            let at_in : (k / length targets - done) * length targets + k % length targets < count * length targets = omega (arith, at, low, parts) in
            let read = put.each (i * length targets + j) d at_in in
            let source : slice_index block i ≡ slice_index sources (k / length targets) = same i i_in ∙ ap (slice_index sources) whole in
            let s_in : slice_index sources (k / length targets) < length h.ranks = sources_in (k / length targets) 0 (omega (arith, row_in, within)) in
            let t_in : slice_index targets (k % length targets) < length h.ranks = targets_in (k % length targets) 0 j_in in
            let zero : 0 + ((k / length targets - done) * length targets + k % length targets) ≡ (k / length targets - done) * length targets + k % length targets = omega arith in
            let long : IsLengthFrom h (slice_index sources (k / length targets)) (slice_index targets j) (slice_index new_lengths (i * length targets + j)) =
            subst (λ s. IsLengthFrom h s (slice_index targets j) (slice_index new_lengths (i * length targets + j))) source
            (subst (λ x. IsLengthFrom h (slice_index block i) (slice_index targets j) (slice_index new_lengths x)) zero (rows.each i j i_in j_in)) in
            let sum : IsSumFrom h numbers (slice_index sources (k / length targets)) (slice_index targets j) (slice_index new_sums (i * length targets + j)) =
            subst (λ s. IsSumFrom h numbers s (slice_index targets j) (slice_index new_sums (i * length targets + j))) source
            (subst (λ x. IsSumFrom h numbers (slice_index block i) (slice_index targets j) (slice_index new_sums x)) zero (sum_rows.each i j i_in j_in)) in
            let cell = pair-cell (slice_index sources (k / length targets)) (slice_index targets j) s_in t_in (slice_index new_lengths (i * length targets + j)) (slice_index new_sums (i * length targets + j)) long sum in
            subst (λ x. IsSumOrNone h set (slice_index sources (k / length targets)) (slice_index targets (k % length targets)) (get_or new x d)) at
            (subst (IsSumOrNone h set (slice_index sources (k / length targets)) (slice_index targets j)) (sym read) cell)

-- what a slice of a vector has at the end is what the vector has
pub written-count : (n : ℕ) (new rest : List ℕ) → length new ≡ n → length (take n (new ++ rest)) ≡ n
written-count n new rest is =
    let same : take n (new ++ rest) ≡ new = subst (λ m. take m (new ++ rest) ≡ new) is (take-append_seam new rest) in
    ap (λ (xs : List ℕ). length xs) same ∙ is

-- The sources from one on, so many
module _ (sources : List ℕ) (done count : ℕ) (within : done + count ≤ length sources) where
  pub block-count : length (take ((done + count) - done) (drop done sources)) ≡ count
  block-count =
      let left : length (drop done sources) ≡ length sources - done = length-drop done sources in
      let fits : (done + count) - done ≤ length (drop done sources) = omega (arith, left, within) in
      let all : length (take ((done + count) - done) (drop done sources)) ≡ (done + count) - done = length-take-le ((done + count) - done) (drop done sources) fits in
      omega (arith, all)

  pub block-at : (i d : ℕ) → i < count → get_or (take ((done + count) - done) (drop done sources)) i d ≡ get_or sources (done + i) d
  block-at i d low =
      let before : i < (done + count) - done = omega (arith, low) in
      get_or-take ((done + count) - done) (drop done sources) i d before ∙ get_or-drop done sources i d
