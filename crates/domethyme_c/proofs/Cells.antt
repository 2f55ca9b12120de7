-- A table with sums, cell by cell.
use Rattle.std.proofs.Common.{ℕ, ◌≡◌, ◌≢◌, ◌+◌, ◌^◌, ◌<◌, ◌≤◌, ◌∙◌, List, length, get_or, set, Option, option_map, sym, subst, inl, inr, arith}
use Rattle.std.proofs.lemmas.Bool.{cases_eq}
use Rattle.std.proofs.lemmas.List.{get_or-set_same, get_or-set_other, length-set}
use Rattle.ch_graph.specs.Graph.{Graph}
use Rattle.ch_graph.specs.Hierarchy.{Hierarchy}
use Rattle.ch_laws.specs.ByWeight.{IsRightByWeight}
use Rattle.ch_route.specs.Laws.{LengthsAreLeast, LengthsAreLeastByWeight}
use Rattle.ch_route.specs.Routes.{IsLengthBy}
use Rattle.ch_sums.specs.Numbers.{AreGiven, IsSummed}
use Rattle.ch_sums.specs.Numbers.{IsLengthBy as IsSumLength}
use Rattle.ch_sums.specs.declared.along.Summed.{Summed}
use Rattle.domethyme_c.specs.Sets.{IsSetOf}
use Rattle.domethyme_c.specs.Sums.{AreCells, IsSumOrNone, cell_of}
use Rattle.domethyme_c.specs.declared.code.TheConstants.{NO_LENGTH}
use Rattle.domethyme_c.specs.declared.sums.SumInfo.{SumInfo}

-- none is written yet
pub cells-none : (Is : ℕ → SumInfo → Type 0) (cells : List SumInfo) → AreCells 0 Is cells cells
cells-none Is cells = record { room = λ i. length cells; each = λ k d low. absurd (omega (arith, low)); rest = λ k d high. λ i. get_or cells k d }

-- one more is
pub cells-more : (Is : ℕ → SumInfo → Type 0) (n : ℕ) (old now : List SumInfo) (cell : SumInfo) → n < length now → Is n cell → AreCells n Is old now → AreCells (n + 1) Is old (set now n cell)
cells-more Is n old now cell within is was = record {
  room = length-set now n cell ∙ was.room;
  each = λ k d low. elim (cases_eq k n) [
    | inl here ↦ subst (λ j. Is j (get_or (set now n cell) j d)) (sym here) (subst (Is n) (sym (get_or-set_same now n cell d within)) is)
    | inr other ↦ subst (Is k) (sym (get_or-set_other now n k cell d other)) (was.each k d (omega (arith, low, other)))
  ];
  rest = λ k d high.
      let other : (k ≡ n → ⊥) = λ same. omega (arith, same, high) in
      get_or-set_other now n k cell d other ∙ was.rest k d (omega (arith, high));
}

-- what is found of a pair
pub sum-or-none : (h : Hierarchy) (set : List ℕ) (s t : ℕ) (summed : Option Summed) → LengthsAreLeast → LengthsAreLeastByWeight → s < length h.ranks → t < length h.ranks → IsSumLength h s t (option_map (λ (f : Summed). f.length) summed)
    → ((given : List ℕ) (g : Graph) (number : ℕ → ℕ → ℕ) → IsSetOf h given set → IsRightByWeight g h → AreGiven h given number → IsSummed g number s t summed) → (cell : SumInfo) → cell ≡ cell_of summed → (cell.length ≢ NO_LENGTH → cell.sum ≤ 2 ^ 62) → IsSumOrNone h set s t cell
sum-or-none h set s t summed least least_by_weight s_in t_in by along cell written small = record {
  summed = summed;
  length =
      let found : IsLengthBy h s t (option_map (λ (f : Summed). f.length) summed) = record { value = by.value; least = by.least; long = by.long } in
      record {
        found = found;
        exact = λ g right. least g h s t _ right (omega (arith, s_in, right.nodes)) (omega (arith, t_in, right.nodes)) found;
        by_weight = λ g right. least_by_weight g h s t _ right (omega (arith, s_in, right.nodes)) (omega (arith, t_in, right.nodes)) found;
      };
  along = along;
  written = written;
  small = small;
}
