-- How labels change.
use Rattle.std.specs.Prelude.{ℕ, ◌≡◌, ◌≢◌, ◌⊎◌, true, false, List, Option, Some, None}
use Rattle.ch_cost.specs.declared.cost.Cost.{Cost}
use Rattle.ch_cost.specs.Cost.{zero_cost, ◌⊕◌, ◌≼◌, ◌≺◌}
use Rattle.ch_laws.specs.declared.entry.Entry.{Entry}
use Rattle.ch_laws.specs.Rows.{Lists}
use Rattle.ch_witness.specs.declared.label.Label.{Label}
use Rattle.ch_witness.specs.declared.frontier.Reached.{Reached}
use Rattle.ch_witness.specs.declared.rule.Rule.{Rule}
use Rattle.ch_witness.specs.Tree.{Labels, IsSettled, IsAtMost}

-- only the start is labelled, as settled at no cost
pub record IsStartAlone (from : ℕ) (labels : Labels) : Type 0 where
  pub here : labels from ≡ Some (record { cost = zero_cost; before = None; settled = true })
  pub others : (v : ℕ) → v ≢ from → labels v ≡ None

-- a way of this cost is better than what is known; what is settled stays
abbrev pub Improves : Cost → Option Label → Type 0
Improves c None = Unit {0}
Improves c (Some l) = (l.settled ≡ false) × (c ≺ l.cost)

-- A way of cost c to v that goes on from a step was offered: v is opened with it, or what is there is settled or at
-- most that cost and stays.
pub record IsOffered (old : Labels) (v : ℕ) (c : Cost) (step : Option ℕ) (new : Labels) : Type 0 where
  pub others : (u : ℕ) → u ≢ v → new u ≡ old u
  pub here : ((new v ≡ Some (record { cost = c; before = step; settled = false })) × ((l : Label) → old v ≡ Some l → (l.settled ≡ false) × (c ≼ l.cost))) ⊎ ((new v ≡ old v) × (IsSettled (old v) ⊎ IsAtMost (old v) c))

-- A node that wasn't settled is settled now, as it was reached.
pub record IsSettledNow (old : Labels) (r : Reached) (new : Labels) : Type 0 where
  pub others : (u : ℕ) → u ≢ r.node → new u ≡ old u
  pub was : old r.node ≡ Some (record { cost = r.cost; before = r.before; settled = false })
  pub here : new r.node ≡ Some (record { cost = r.cost; before = r.before; settled = true })

-- the label is opened from a step, which costs c and whose arcs out are these
pub record IsOpened (r : Rule) (entries : List Entry) (c : Cost) (step : Option ℕ) (v : ℕ) (l : Label) : Type 0 where
  pub arc : Cost
  pub listed : Lists entries v arc
  pub sum : l.cost ≡ c ⊕ arc
  pub before : l.before ≡ step
  pub open_yet : l.settled ≡ false
  pub apart : v ≢ r.avoid
  pub at_most : l.cost ≼ r.cutoff

-- Each of these arcs out of a step, which costs c, was offered.
pub record AreFollowed (r : Rule) (entries : List Entry) (c : Cost) (step : Option ℕ) (old new : Labels) : Type 0 where
  pub opened : (v : ℕ) (l : Label) → new v ≡ Some l → (old v ≡ Some l) ⊎ IsOpened r entries c step v l
  pub settled : (v : ℕ) → IsSettled (old v) → new v ≡ old v
  pub kept : (v : ℕ) (d : Cost) → IsAtMost (old v) d → IsAtMost (new v) d
  pub told : (v : ℕ) (d : Cost) → Lists entries v d → v ≢ r.avoid → c ⊕ d ≼ r.cutoff → IsSettled (old v) ⊎ IsAtMost (new v) (c ⊕ d)

-- The arc out of a step, which costs c, was offered where it is to be.
abbrev pub IsFollowed : Rule → Entry → Cost → Option ℕ → Labels → Labels → Type 0
IsFollowed r e c step old new = ((e.other ≢ r.avoid) × (c ⊕ e.cost ≼ r.cutoff) × IsOffered old e.other (c ⊕ e.cost) step new) ⊎ ((e.other ≢ r.avoid → c ⊕ e.cost ≼ r.cutoff → ⊥) × (new ≡ old))
