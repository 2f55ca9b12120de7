-- Labels that are packed with the number of the link that they come over.
use Rattle.std.specs.Prelude.{ℕ, ◌≡◌, ◌+◌, ◌-◌, ◌/◌, ◌%◌, ◌<◌, ◌≤◌, ◌^◌, List, length, slice_index}
use Rattle.ch_cost.specs.Cost.{length_of}
use Rattle.ch_table.specs.Labels.{lane_of}
use Rattle.ch_table.specs.Selection.{Selection, lists_of}
use Rattle.ch_table.specs.declared.table.Table.{Table}

-- they have room for both
pub record IsPacked (table : Table) (place : ℕ) : Type 0 where
  pub near : length_of table.bound < 2 ^ 50 - 1
  pub short : length_of table.hierarchy.now.bound < 2 ^ 50
  pub few : slice_index (lists_of table.columns.now).first (place + 1) + 1 < slice_index (lists_of table.columns.now).first place + 1024

-- the label is that of the place, or comes over one of its links before this one
pub record IsWon (s : Selection) (label : ℕ → ℕ) (p before packed : ℕ) : Type 0 where
  pub own : packed % 1024 ≡ 0 → packed / 1024 ≡ label p
  pub over : (at : ℕ) → at + 1 ≡ slice_index s.first p + packed % 1024 → slice_index s.first p ≤ at → (at < before) × (packed / 1024 ≡ label (slice_index s.tails at) + slice_index s.lengths at)

-- the sum of a lane over a link
abbrev pub sum_over : List ℕ → List ℕ → List (List ℕ) → ℕ → ℕ → ℕ
sum_over tails numbers sums lane at = lane_of sums lane (slice_index tails at) + slice_index numbers at

-- there is such a link, and the sum is a number of 64 bits
pub record HasSumOver (tails numbers : List ℕ) (sums : List (List ℕ)) (lane at : ℕ) : Type 0 where
  pub step_in : at < length tails
  pub number_in : at < length numbers
  pub tail_in : slice_index tails at < length sums
  pub small : sum_over tails numbers sums lane at < 2 ^ 64
