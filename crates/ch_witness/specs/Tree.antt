-- What a search has gone on from, and what it knows of the nodes that it has come to.
use Rattle.std.specs.Prelude.{ℕ, ◌≡◌, ◌≢◌, ◌<◌, ◌⊎◌, true, List, [], ◌∷◌, ◌++◌, length, map, Option, Some, None}
use Rattle.std.specs.List.{slice_get}
use Rattle.ch_witness.specs.Places.{value_in}
use Rattle.ch_cost.specs.declared.cost.Cost.{Cost}
use Rattle.ch_cost.specs.Cost.{zero_cost, ◌⊕◌, ◌≼◌, IsOfWalks}
use Rattle.ch_laws.specs.Rows.{Row, Lists}
use Rattle.ch_overlay.specs.declared.source.Seen.{Seen}
use Rattle.ch_overlay.specs.Source.{row_in}
use Rattle.ch_witness.specs.declared.frontier.Frontier.{Frontier}
use Rattle.ch_witness.specs.declared.frontier.Reached.{Reached}
use Rattle.ch_witness.specs.declared.label.Label.{Label}
use Rattle.ch_witness.specs.declared.rule.Rule.{Rule}
use Rattle.ch_witness.specs.declared.step.TreeNode.{TreeNode}

-- what is known of each node that the search has come to
abbrev pub Labels : Type 0
Labels = ℕ → Option Label

abbrev pub labels_of : Frontier → Labels
labels_of f v = value_in f.nodes f.labels.items v

-- the node of a step, and its row
abbrev pub node_of : TreeNode → ℕ
node_of s = s.seen.value.node

abbrev pub step_row : TreeNode → Row
step_row s = row_in s.seen.value

-- the answers that the steps used
abbrev pub seen_of : List TreeNode → List Seen
seen_of steps = map (λ s. s.seen.value) steps

-- the step at this place goes on to v by an arc of its row, which makes the cost c
pub record LeadsTo (s : TreeNode) (v : ℕ) (c : Cost) : Type 0 where
  pub arc : Cost
  pub listed : Lists (step_row s).out v arc
  pub sum : c ≡ s.cost ⊕ arc

-- v is reached at the cost c after the step at the place `before`, one of the first n; or it is where the search
-- starts
abbrev pub IsReachedBy : ℕ → List TreeNode → ℕ → Option ℕ → ℕ → Cost → Type 0
IsReachedBy from steps n None v c = (v ≡ from) × (c ≡ zero_cost)
IsReachedBy from steps n (Some k) v c = (k < n) × ((s : TreeNode) × (slice_get steps k ≡ Some s) × LeadsTo s v c)

-- a step is of a node that isn't avoided and whose row has no rank, and it is reached after an earlier step
pub record IsTreeStep (r : Rule) (steps : List TreeNode) (k : ℕ) (s : TreeNode) : Type 0 where
  pub reached : IsReachedBy r.from steps k s.before (node_of s) s.cost
  pub apart : node_of s ≢ r.avoid
  pub unranked : (step_row s).rank ≡ None

-- the steps of a search, of different nodes
pub record AreSteps (r : Rule) (steps : List TreeNode) : Type 0 where
  pub each : (k : ℕ) (s : TreeNode) → slice_get steps k ≡ Some s → IsTreeStep r steps k s
  pub once : (j k : ℕ) (a b : TreeNode) → slice_get steps j ≡ Some a → slice_get steps k ≡ Some b → node_of a ≡ node_of b → j ≡ k

-- a node that the search may come to, reached after a step at a cost that isn't above the cutoff
pub record IsLabel (r : Rule) (steps : List TreeNode) (v : ℕ) (l : Label) : Type 0 where
  pub reached : IsReachedBy r.from steps (length steps) l.before v l.cost
  pub apart : v ≢ r.avoid
  pub at_most : l.cost ≼ r.cutoff
  pub fits : IsOfWalks (length steps) l.cost

-- the node is settled
abbrev pub IsSettled : Option Label → Type 0
IsSettled None = ⊥
IsSettled (Some l) = l.settled ≡ true

-- the node is reached at a cost of at most this
abbrev pub IsAtMost : Option Label → Cost → Type 0
IsAtMost None c = ⊥
IsAtMost (Some l) c = l.cost ≼ c

-- The tree of a search between two turns: labels lead to steps, and a step's node is settled.
pub record IsTree (r : Rule) (steps : List TreeNode) (labels : Labels) : Type 0 where
  pub grown : AreSteps r steps
  pub reached : (v : ℕ) (l : Label) → labels v ≡ Some l → IsLabel r steps v l
  pub settled : (k : ℕ) (s : TreeNode) → slice_get steps k ≡ Some s → IsSettled (labels (node_of s))

-- each node that the search has come to is of this kind
abbrev pub AllAre : (ℕ → Type 0) → Labels → Type 0
AllAre IsKind labels = (v : ℕ) (l : Label) → labels v ≡ Some l → IsKind v

-- each row that a step went on from is of this kind
abbrev pub AllSeen : (Seen → Type 0) → List TreeNode → Type 0
AllSeen IsKind steps = (k : ℕ) (s : TreeNode) → slice_get steps k ≡ Some s → IsKind s.seen.value

-- the step goes on by this answer from a node that was reached
pub record IsStepFrom (r : Reached) (seen : Seen) (s : TreeNode) : Type 0 where
  pub seen_is : s.seen.value ≡ seen
  pub cost : s.cost ≡ r.cost
  pub before : s.before ≡ r.before

-- The row of a node that was reached was read: where it has no rank, it became a step, and each of its arcs out was
-- offered.
pub record IsGoneOn (r : Rule) (at : Reached) (seen : Seen) (old new : List TreeNode) (known labels : Labels) : Type 0 where
  pub node : seen.node ≡ at.node
  pub steps : (((row_in seen).rank ≡ None) × ((s : TreeNode) × IsStepFrom at seen s × (new ≡ old ++ s ∷ []))) ⊎ (((row_in seen).rank ≡ None → ⊥) × (new ≡ old))
  pub told : (row_in seen).rank ≡ None → (v : ℕ) (d : Cost) → Lists (row_in seen).out v d → v ≢ r.avoid → at.cost ⊕ d ≼ r.cutoff → IsSettled (known v) ⊎ IsAtMost (labels v) (at.cost ⊕ d)

-- What a search keeps as it goes on: its steps, and that a node is reached at a cost of at most this.
pub record IsLater (old new : List TreeNode) (known labels : Labels) : Type 0 where
  pub steps : (k : ℕ) (s : TreeNode) → slice_get old k ≡ Some s → slice_get new k ≡ Some s
  pub kept : (v : ℕ) (d : Cost) → IsAtMost (known v) d → IsAtMost (labels v) d

-- the node isn't that of a step
abbrev pub IsNew : ℕ → List TreeNode → Type 0
IsNew v steps = (k : ℕ) (s : TreeNode) → slice_get steps k ≡ Some s → node_of s ≢ v

-- The row of the start as it was read: where it has no rank, it is that of a step, and each node that it has an arc
-- to is reached at a cost of at most that arc's, unless that is above the cutoff or the node is to be avoided.
pub record IsStartSeen (r : Rule) (seen : Seen) (steps : List TreeNode) (labels : Labels) : Type 0 where
  pub node : seen.node ≡ r.from
  pub step : (row_in seen).rank ≡ None → (k : ℕ) × ((s : TreeNode) × (slice_get steps k ≡ Some s) × (s.seen.value ≡ seen))
  pub direct : (row_in seen).rank ≡ None → (v : ℕ) (d : Cost) → Lists (row_in seen).out v d → v ≢ r.avoid → d ≼ r.cutoff → IsAtMost (labels v) d
