-- The marks of nodes, of which those that were seen are in a list, and for each rank its place in it.
use Rattle.std.specs.Prelude.{ℕ, zero, suc, ◌≡◌, ◌<◌, List, cond, length, map, Option, Some, None, slice_get, slice_index}
use Rattle.ch_graph.specs.declared.mark.Mark.{Mark}
use Rattle.ch_graph.specs.declared.mark.Mark.TheVariants.{Unseen, Open, Settled}
use Rattle.ch_query.specs.declared.label.Label.{Label}
use Rattle.ch_query.specs.declared.mark_list.Touched.{Touched}

-- the mark of a node, if it was seen
abbrev pub mark_in : Option Touched → Mark Label
mark_in None = Unseen
mark_in (Some s) = cond s.settled (Settled s.label) (Open s.label)

-- the same by the place, which is counted from 1, and is 0 where the node wasn't seen
abbrev pub mark_at : List Touched → ℕ → Mark Label
mark_at seen zero = Unseen
mark_at seen (suc k) = mark_in (slice_get seen k)

abbrev pub marks_in : List Touched → List ℕ → List (Mark Label)
marks_in seen places = map (mark_at seen) places

-- each node that was seen has its own place, and no other rank has one
pub record ArePlaces (places : List ℕ) (seen : List Touched) : Type 0 where
  pub within : (k : ℕ) (s : Touched) → slice_get seen k ≡ Some s → s.rank < length places
  pub here : (k : ℕ) (s : Touched) → slice_get seen k ≡ Some s → slice_index places s.rank ≡ suc k
  pub back : (r k : ℕ) → r < length places → slice_index places r ≡ suc k → (s : Touched) × (slice_get seen k ≡ Some s) × (s.rank ≡ r)
