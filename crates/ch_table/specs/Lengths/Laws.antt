-- Rows of lengths of one kind as rows of another.
use Rattle.std.proofs.Common.{ℕ, ◌+◌, ◌*◌, ◌<◌, ◌≤◌, List, arith, length, slice_index, All}
use Rattle.ch_graph.specs.Hierarchy.{Hierarchy}
use Rattle.ch_table.specs.Lengths.{AreRows, IsRow}

-- a row of lengths of one kind, where these are of another
pub row-weaker : (Is Are : ℕ → ℕ → Type 0) (h : Hierarchy) (targets : List ℕ) (from : ℕ) (old new : List ℕ) → All (λ t. t < length h.ranks) targets → ((t n : ℕ) → t < length h.ranks → Is t n → Are t n) → IsRow Is targets from old new → IsRow Are targets from old new
row-weaker Is Are h targets from old new targets_in weaker row = record {
  room = row.room;
  each = λ k low. weaker (slice_index targets k) (slice_index new (from + k)) (targets_in k 0 low) (row.each k low);
  before = row.before;
  after = row.after;
}

-- and several rows
pub rows-weaker : (Is Are : ℕ → ℕ → ℕ → Type 0) (h : Hierarchy) (sources targets : List ℕ) (from n : ℕ) (old new : List ℕ) → All (λ s. s < length h.ranks) sources → All (λ t. t < length h.ranks) targets → n ≤ length sources
    → ((s t m : ℕ) → s < length h.ranks → t < length h.ranks → Is s t m → Are s t m) → AreRows Is sources targets from n old new → AreRows Are sources targets from n old new
rows-weaker Is Are h sources targets from n old new sources_in targets_in within weaker rows = record {
  room = rows.room;
  each = λ i k i_low k_low.
      let i_in : i < length sources = omega (arith, i_low, within) in
      weaker (slice_index sources i) (slice_index targets k) (slice_index new (from + (i * length targets + k))) (sources_in i 0 i_in) (targets_in k 0 k_low) (rows.each i k i_low k_low);
  before = rows.before;
  after = rows.after;
}
