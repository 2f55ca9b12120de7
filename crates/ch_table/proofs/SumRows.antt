-- Rows of sums.
use Rattle.std.proofs.Common.{ℕ, ◌≡◌, ◌^◌, ◌<◌, ◌≤◌, List, [], ◌∷◌, length, All, Option, Some, None, refl, subst, arith}
use Rattle.ch_cost.specs.declared.cost.Cost.{Cost}
use Rattle.ch_cost.specs.Cost.{length_of}
use Rattle.ch_cost.specs.Cost.Numbers.{lengths-from_no_longer}
use Rattle.ch_graph.specs.Walk.{IsLeastOrNone}
use Rattle.ch_graph.specs.Hierarchy.{Hierarchy, IsWellMade, rank_of}
use Rattle.ch_query.specs.declared.seed.Seed.{Seed}
use Rattle.ch_query.specs.Seeds.{AreSeeds, IsValueBetween}
use Rattle.ch_query.specs.Sums.{IsSummedWay}
use Rattle.ch_query.specs.Ways.{IsWay, free, WaysAreWalks, FreeValueIsValue}
use Rattle.ch_table.specs.Labels.{IsLabel, label_of}
use Rattle.ch_table.specs.Lengths.{IsRow}
use Rattle.ch_table.specs.Lengths.Laws.{row-weaker}
use Rattle.ch_table.specs.Sums.{IsSumFrom, IsSumFromAny}
use Rattle.ch_table.specs.declared.table.TheConstants.{NO_LENGTH}
use Rattle.ch_table.proofs.Rows.{value-from}

-- The sum beside the label of a target's rank
module _ (walks : WaysAreWalks) (h : Hierarchy) (made : IsWellMade h) (numbers : List ℕ) (starts : List Seed) (begins : AreSeeds h starts) (bound : Cost) (t : ℕ) (t_in : t < length h.ranks) (label : ℕ) (is : IsLabel (IsWay h starts bound (rank_of h t)) bound label) where
  pub sum-none : length_of bound < label → IsSumFromAny h numbers starts bound t NO_LENGTH
  sum-none distant = by_cost is.cost is.least is.is
    where
      by_cost : (v : Option Cost) → IsLeastOrNone (IsWay h starts bound (rank_of h t)) v → label ≡ label_of bound v → IsSumFromAny h numbers starts bound t NO_LENGTH
      by_cost None none same = record { cost = None; is = value-from walks h made starts begins bound t t_in None none; sum = refl }
      by_cost (Some c) least same = absurd (omega (arith, distant, same, lengths-from_no_longer c bound least.0.short))

  pub sum-some : (m : ℕ) → label ≤ length_of bound → IsSummedWay h numbers starts (rank_of h t) label m → m ≤ 2 ^ 62 → IsSumFromAny h numbers starts bound t m
  sum-some m near way small = by_cost is.cost is.least is.is
    where
      by_cost : (v : Option Cost) → IsLeastOrNone (IsWay h starts bound (rank_of h t)) v → label ≡ label_of bound v → IsSumFromAny h numbers starts bound t m
      by_cost None none same = absurd (omega (arith, near, same))
      by_cost (Some c) least same = record {
        cost = Some c;
        is = value-from walks h made starts begins bound t t_in (Some c) least;
        sum = (subst (λ n. IsSummedWay h numbers starts (rank_of h t) n m) same way, small);
      }

-- from one start at no cost, within the bound of the hierarchy
pub sum_row-from : FreeValueIsValue → (h : Hierarchy) (numbers : List ℕ) (s : ℕ) (bound : Cost) → bound ≡ h.bound → (targets : List ℕ) (from : ℕ) (old new : List ℕ) → All (λ t. t < length h.ranks) targets
    → IsRow (IsSumFromAny h numbers (free s ∷ []) bound) targets from old new → IsRow (IsSumFrom h numbers s) targets from old new
sum_row-from values h numbers s bound is targets from old new targets_in =
    row-weaker (IsSumFromAny h numbers (free s ∷ []) bound) (IsSumFrom h numbers s) h targets from old new targets_in
    (λ t m t_in sum. record {
      cost = sum.cost;
      is = values h s t sum.cost (subst (λ (b : Cost). IsValueBetween h (free s ∷ []) (free t ∷ []) b sum.cost) is sum.is);
      sum = sum.sum;
    })
