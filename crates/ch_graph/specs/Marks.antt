-- Marks, as a search keeps them: what is known of each node. Of a label only its cost is looked at here, which `cost`
-- gives: that of some walk to the node.
use Rattle.std.specs.Prelude.{ℕ, ◌≡◌, List, slice_index_or, sum_by, Option, Some, None}
use Rattle.ch_cost.specs.declared.cost.Cost.{Cost}
use Rattle.ch_cost.specs.Cost.{◌≼◌, ◌≺◌}
use Rattle.ch_graph.specs.declared.mark.Mark.{Mark}
use Rattle.ch_graph.specs.declared.mark.Mark.TheVariants.{Unseen, Open, Settled}
pub mod Laws

-- the mark of a node, where a list has one for each; past its end nothing is seen
abbrev pub mark : {L : Type 0} → List (Mark L) → ℕ → Mark L
mark marks v = slice_index_or marks v Unseen

-- the label of a mark
abbrev pub label_in : {L : Type 0} → Mark L → Option L
label_in Unseen = None
label_in (Open e) = Some e
label_in (Settled e) = Some e

-- the mark has this label
abbrev pub HasLabel : {L : Type 0} → Mark L → L → Type 0
HasLabel m e = label_in m ≡ Some e

-- the mark has a label that costs at most this
abbrev pub IsAtMost : {L : Type 0} → (L → Cost) → Mark L → Cost → Type 0
IsAtMost cost Unseen c = ⊥
IsAtMost cost (Open e) c = cost e ≼ c
IsAtMost cost (Settled e) c = cost e ≼ c

-- a walk of this cost is better than what the mark knows; what is settled stays
abbrev pub Improves : {L : Type 0} → (L → Cost) → Cost → Mark L → Type 0
Improves cost c Unseen = Unit {0}
Improves cost c (Open e) = c ≺ cost e
Improves cost c (Settled e) = ⊥

-- one node's mark is written, and the others stay
pub record IsPut {L : Type 0} (old : ℕ → Mark L) (v : ℕ) (m : Mark L) (new : ℕ → Mark L) : Type 0 where
  pub here : new v ≡ m
  pub others : (u : ℕ) → (u ≡ v → ⊥) → new u ≡ old u

-- no node is open
abbrev pub NoneOpen : {L : Type 0} → (ℕ → Mark L) → Type 0
NoneOpen {L} marks = (v : ℕ) (e : L) → marks v ≡ Open e → ⊥

-- how many nodes are settled
abbrev pub settled : {L : Type 0} → Mark L → ℕ
settled Unseen = 0
settled (Open e) = 0
settled (Settled e) = 1

abbrev pub settled_count : {L : Type 0} → List (Mark L) → ℕ
settled_count marks = sum_by settled marks
