-- What an engine keeps to make sums.
use Rattle.std.specs.Prelude.{ℕ, ◌≡◌, ◌+◌, ◌<◌, ◌≤◌, List, length, slice_index, slice_index_or, IfSome}
use Rattle.ch_graph.specs.Hierarchy.{Hierarchy}
use Rattle.domethyme_c.specs.Sets.{digest_of}
use Rattle.domethyme_c.specs.StepLinks.{AreStepLinks}
use Rattle.domethyme_c.specs.declared.summing.Summing.{Summing}
use Rattle.domethyme_c.specs.declared.sums.SumInfo.{SumInfo}

-- it is of the hierarchy, and has its digest, room for a number for each node, and the links of the last selection, if any
pub record IsSumming (h : Hierarchy) (s : Summing) : Type 0 where
  pub of : s.search ≡ h
  pub digest : s.digest ≡ digest_of h
  pub room : length s.kept.items ≡ length h.ranks
  pub chosen : IfSome s.chosen (AreStepLinks h)

-- lengths and sums, so many, are written as cells from a place on, and the others stay
pub record ArePut (lengths sums : List ℕ) (count from : ℕ) (old new : List SumInfo) : Type 0 where
  pub room : length new ≡ length old
  pub each : (k : ℕ) (d : SumInfo) → k < count → slice_index_or new (from + k) d ≡ record { length = slice_index lengths k; sum = slice_index sums k }
  pub before : (k : ℕ) (d : SumInfo) → k < from → slice_index_or new k d ≡ slice_index_or old k d
  pub after : (k : ℕ) (d : SumInfo) → from + count ≤ k → slice_index_or new k d ≡ slice_index_or old k d
