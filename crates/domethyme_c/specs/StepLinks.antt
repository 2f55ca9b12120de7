-- Which links the steps of a selection are.
use Rattle.std.specs.Prelude.{ℕ, ◌≡◌, ◌<◌, ◌≤◌, ◌^◌, List, length, slice_index}
use Rattle.std.specs.Arc.{arc_value}
use Rattle.std.specs.List.{range_with_len}
use Rattle.ch_graph.specs.Hierarchy.{Hierarchy}
use Rattle.ch_table.specs.Selection.{IsSelection}
use Rattle.ch_table.specs.Sums.{AreStepNumbers}
use Rattle.domethyme_c.specs.declared.step_links.StepLinks.{StepLinks}

-- it is of the hierarchy, and the number that is kept for each step is the place of its link
pub record AreStepLinks (h : Hierarchy) (s : StepLinks) : Type 0 where
  pub selection : IsSelection h (arc_value s.selection)
  pub links : length h.links ≤ 2 ^ 36 → AreStepNumbers h (range_with_len 0 (length h.links)) (arc_value s.selection) s.links.items

-- for each of some links its number
pub record AreGathered (links numbers steps : List ℕ) : Type 0 where
  pub count : length steps ≡ length links
  pub each : (i : ℕ) → i < length links → slice_index links i < length numbers → slice_index steps i ≡ slice_index numbers (slice_index links i)
