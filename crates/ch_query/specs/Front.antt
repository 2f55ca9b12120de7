-- What the queue of a side has to do with the marks.
use Rattle.std.specs.Prelude.{ℕ, ◌≤◌, List}
use Rattle.std.specs.Ordering.{nat_cmp}
use Rattle.ch_cost.specs.Cost.{length_of}
use Rattle.ch_graph.specs.declared.mark.Mark.{Mark}
use Rattle.ch_graph.specs.Marks.{mark}
use Rattle.ch_graph.specs.Queue.{Entry, IsQueue}
use Rattle.ch_query.specs.declared.label.Label.{Label}

-- the queue waits in the order of the lengths
abbrev pub label_length : Label → ℕ
label_length e = length_of e.cost

abbrev pub IsQueueOf : List (Mark Label) → List (Entry ℕ) → Type 0
IsQueueOf marks entries = IsQueue ◌≤◌ label_length nat_cmp (mark marks) entries
