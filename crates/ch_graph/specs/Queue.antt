-- The queue of a search: a heap of nodes by the keys of their labels, and what it has to do with the marks.
use Rattle.std.specs.Prelude.{ℕ, ◌≡◌, List, All, Contains}
use Rattle.std.specs.declared.cmp.Ordering.{Ordering}
use Rattle.std.specs.declared.cmp.Reverse.{Reverse}
use Rattle.std.specs.Ordering.{nat_cmp, ordering_then}
use Rattle.std.specs.BinaryHeap.{IsHeap}
use Rattle.ch_graph.specs.declared.mark.Mark.{Mark}
use Rattle.ch_graph.specs.declared.mark.Mark.TheVariants.{Open}
use Rattle.ch_graph.specs.Marks.{HasLabel}
pub mod Laws

-- the key of a label, and the node that has it
abbrev pub Entry : Type 0 → Type 0
Entry K = Reverse (K × ℕ)

abbrev pub entry : {K : Type 0} → K → ℕ → Entry K
entry k v = record { 0 = (k, v) }

-- the smaller key comes first, and of equal keys the smaller node
abbrev pub entry_cmp : {K : Type 0} → (K → K → Ordering) → Entry K → Entry K → Ordering
entry_cmp cmp x y = ordering_then (cmp y.0.0 x.0.0) (nat_cmp y.0.1 x.0.1)

module _ {K L : Type 0} (AtMost : K → K → Type 0) (key : L → K) where
  -- an entry is of a node that has a label, whose key is at most the entry's
  abbrev pub IsEntryOf : (ℕ → Mark L) → Entry K → Type 0
  IsEntryOf marks x = (e : L) × HasLabel (marks x.0.1) e × AtMost (key e) x.0.0

  -- The queue is a heap, each open node is in it with its key, and what else is in it came from older labels.
  pub record IsQueue (cmp : K → K → Ordering) (marks : ℕ → Mark L) (entries : List (Entry K)) : Type 0 where
    pub heap : IsHeap (entry_cmp cmp) entries
    pub waits : (v : ℕ) (e : L) → marks v ≡ Open e → Contains entries (entry (key e) v)
    pub known : All (IsEntryOf marks) entries
