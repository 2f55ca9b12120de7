use Rattle.std.proofs.Common.{ℕ, ◌≡◌, ◌+◌, ◌<◌, ◌∙◌, List, length, slice_index, slice_index_or, ap, subst, arith, ◌*◌, ◌/◌, ◌%◌, ◌≤◌, All, Option, Some, None, refl, inl, inr}
use Rattle.std.specs.List.{range_with_len}
use Rattle.std.proofs.lemmas.List.FromFn.{length-range_with_len, get_or-range_with_len}
use Rattle.ch_table.specs.Lengths.{IsRow, AreRows}
use Rattle.domethyme_c.specs.Answers.{AreWritten, AreAnswered.out_of_range, AreAnswered.no_memory, IsLengthOrNone, IsTableAnswer, or_none}
use Rattle.std.proofs.lemmas.Bool.{cases_lt}
use Rattle.std.proofs.Math.Nat.{div-add-mod, div-lt_iff_lt-mul, mod-lt, mul_comm}
use Rattle.ch_graph.specs.Hierarchy.{Hierarchy}
use Rattle.ch_route.specs.Routes.{IsRowLength, or_none as or_no_length}
use Rattle.domethyme_c.specs.Engines.{IsNoSelection, IsNoSelection.out_of_range as no_nodes, IsNoSelection.no_memory as no_room_left}

-- A row whose targets are all nodes, in order.
module _ (count : ℕ) (nodes : List ℕ) (are : nodes ≡ range_with_len 0 count) where
  pub count_of_all : length nodes ≡ count
  count_of_all = ap (λ (ns : List ℕ). length ns) are ∙ length-range_with_len 0 count

  own_node : (k d : ℕ) → k < count → slice_index_or nodes k d ≡ k
  own_node k d low = let here : 0 + k ≡ k = omega arith in ap (λ (ns : List ℕ). slice_index_or ns k d) are ∙ get_or-range_with_len 0 count k d low ∙ here

  pub written-all : (Is : ℕ → ℕ → Type 0) (old new : List ℕ) → IsRow Is nodes 0 old new → AreWritten count Is old new
  written-all Is old new row = record {
    room = row.room;
    each = λ k low.
        let here : 0 + k ≡ k = omega arith in
        subst (λ i. Is k (slice_index new i)) here (subst (λ v. Is v (slice_index new (0 + k))) (own_node k 0 low) (row.each k (omega (arith, low, count_of_all))));
    rest = λ k high. row.after k (omega (arith, high, count_of_all));
  }

-- A table is written row by row.
same_number : (n : Option ℕ) → or_no_length n ≡ or_none n
same_number None = refl
same_number (Some n) = refl

-- a number of a row is what is written of a pair
length_of_pair : (h : Hierarchy) (from to n : ℕ) → IsRowLength h from to n → IsLengthOrNone h from to n
length_of_pair h from to n row = record {
  length = row.length;
  is = record { found = row.found; exact = row.exact; by_weight = row.by_weight };
  written = row.written ∙ same_number row.length;
}

-- the number at a place of a table
abbrev pub IsCell : Hierarchy → List ℕ → List ℕ → ℕ → ℕ → Type 0
IsCell h sources targets k n = IsLengthOrNone h (slice_index sources (k / length targets)) (slice_index targets (k % length targets)) n

-- and those of whole rows are written place by place
pub written-rows : (h : Hierarchy) (sources targets old new : List ℕ) → AreRows (IsRowLength h) sources targets 0 (length sources) old new → AreWritten (length sources * length targets) (IsCell h sources targets) old new
written-rows h sources targets old new rows = record {
  room = rows.room;
  each = λ k low.
      let some : 0 < length targets = elim (cases_lt 0 (length targets)) [
        | inl more ↦ more
        | inr none ↦
            let zero_wide : length targets ≡ 0 = omega (arith, none) in
            let empty : length sources * length targets ≡ length sources * 0 = ap (λ w. length sources * w) zero_wide in
            absurd (omega (arith, low, empty))
      ] in
      let place : 0 + ((k / length targets) * length targets + k % length targets) ≡ k = omega (arith, div-add-mod k (length targets), mul_comm (length targets) (k / length targets)) in
      let i_in : k / length targets < length sources = (div-lt_iff_lt-mul {k = length targets} {x = k} {y = length sources} some).1 low in
      let k_in : k % length targets < length targets = mod-lt k {m = length targets} some in
      let own = rows.each (k / length targets) (k % length targets) i_in k_in in
      length_of_pair h (slice_index sources (k / length targets)) (slice_index targets (k % length targets)) (slice_index new k)
      (subst (λ x. IsRowLength h (slice_index sources (k / length targets)) (slice_index targets (k % length targets)) (slice_index new x)) place own);
  rest = λ k high. rows.after k (omega (arith, high));
}

-- and where there is no selection, none is
pub no_table : (h : Hierarchy) (sources targets : List ℕ) (code : ℕ) (lengths : List ℕ) → length sources * length targets ≤ length lengths → All (λ v. v < length h.ranks) sources → IsNoSelection h targets code → IsTableAnswer h sources targets code lengths lengths
no_table h sources targets code lengths room sources_in (no_nodes is none) = out_of_range is room (λ both. none both.1) refl
no_table h sources targets code lengths room sources_in (no_room_left is all) = no_memory is room (sources_in, all)
