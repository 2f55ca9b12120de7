-- A search by marks, over arcs of any kind: what holds between its turns, and what a turn does. It is given by what a
-- label costs, its arcs, the costs that count, where it begins, and the order in which it may settle nodes.
use Rattle.std.specs.Prelude.{ℕ, ◌≡◌, ◌⊎◌}
use Rattle.ch_cost.specs.declared.cost.Cost.{Cost}
use Rattle.ch_cost.specs.Cost.{zero_cost, ◌⊕◌, ◌≼◌}
use Rattle.ch_graph.specs.declared.mark.Mark.{Mark}
use Rattle.ch_graph.specs.declared.mark.Mark.TheVariants.{Open, Settled}
use Rattle.ch_graph.specs.Walk.{Walk}
use Rattle.ch_graph.specs.Marks.{HasLabel, IsAtMost, IsPut}
pub mod Laws

-- arcs, beginnings, and orders of settling: `Arc v u c` says that an arc from v to u costs c, `Begins v c` that a search
-- may begin at v, which costs c then, and `NoLater c v d u` that v, reached at the cost c, is settled no later than u,
-- reached at the cost d
abbrev pub Arcs : Type 1
Arcs = ℕ → ℕ → Cost → Type 0

abbrev pub Beginning : Type 1
Beginning = ℕ → Cost → Type 0

abbrev pub Order : Type 1
Order = Cost → ℕ → Cost → ℕ → Type 0

-- at one node, which costs nothing
abbrev pub Only : ℕ → Beginning
Only s v c = (v ≡ s) × (c ≡ zero_cost)

-- a walk to v from where a search may begin, which costs c with what it costs to begin there
pub record StartedWalk (Arc : Arcs) (Begins : Beginning) (v : ℕ) (c : Cost) : Type 0 where
  pub start : ℕ
  pub first : Cost
  pub begins : Begins start first
  pub rest : Cost
  pub walk : Walk Arc start v rest
  pub sum : first ⊕ rest ≡ c

-- an arc from v to u after a walk of cost c makes one of cost d
pub record LeadsTo (Arc : Arcs) (v : ℕ) (c : Cost) (u : ℕ) (d : Cost) : Type 0 where
  pub arc : Cost
  pub goes : Arc v u arc
  pub sum : c ⊕ arc ≡ d

-- An order goes with arcs where these lead on to what comes no earlier, and where a node that comes no later than one
-- that an arc leads to it from costs no more than the walk over that arc.
pub record IsOrder (Arc : Arcs) (NoLater : Order) : Type 0 where
  pub same : (c : Cost) (v : ℕ) → NoLater c v c v
  pub chain : (b c d : Cost) (u v w : ℕ) → NoLater b u c v → NoLater c v d w → NoLater b u d w
  pub onward : (c d : Cost) (v u : ℕ) → LeadsTo Arc v c u d → NoLater c v d u
  pub back : (b c d : Cost) (v u : ℕ) → LeadsTo Arc v c u d → NoLater b u c v → b ≼ d

-- what costs no more than a cost that counts counts too
abbrev pub IsDownward : (Cost → Type 0) → Type 0
IsDownward Counts = (c d : Cost) → c ≼ d → Counts d → Counts c

module _ {L : Type 0} (cost : L → Cost) where
  -- each arc from v, which was reached at the cost c, was followed, where the sum counts
  abbrev pub IsFollowed : Arcs → (Cost → Type 0) → (ℕ → Mark L) → ℕ → Cost → Type 0
  IsFollowed Arc Counts marks v c =
      (u : ℕ) (d : Cost) → LeadsTo Arc v c u d → Counts d → IsAtMost cost (marks u) d

  -- Marks that come of others by opening nodes with new labels; no label grows.
  pub record IsOpenedBy (IsNew : ℕ → L → Type 0) (old new : ℕ → Mark L) : Type 0 where
    pub stays : (u : ℕ) (d : L) → old u ≡ Settled d → new u ≡ Settled d
    pub settled : (u : ℕ) (d : L) → new u ≡ Settled d → old u ≡ Settled d
    pub opened : (u : ℕ) (d : L) → new u ≡ Open d → (old u ≡ Open d) ⊎ IsNew u d
    pub kept : (u : ℕ) (c : Cost) → IsAtMost cost (old u) c → IsAtMost cost (new u) c

  module _ (NoLater : Order) where
    -- no settled node comes later than v at the cost c
    abbrev pub IsLatest : (ℕ → Mark L) → Cost → ℕ → Type 0
    IsLatest marks c v = (u : ℕ) (d : L) → marks u ≡ Settled d → NoLater (cost d) u c v

    -- v is open with the label e, and no open node comes before it
    pub record IsLeastOpen (marks : ℕ → Mark L) (v : ℕ) (e : L) : Type 0 where
      pub opens : marks v ≡ Open e
      pub least : (u : ℕ) (d : L) → marks u ≡ Open d → NoLater (cost e) v (cost d) u

    -- The marks between two turns of a search: where it begins there are labels of no more, a label is the cost of a walk
    -- from there, no open node comes before a settled one, and each arc from a settled node was followed.
    pub record IsSearch (Arc : Arcs) (Counts : Cost → Type 0) (Begins : Beginning) (marks : ℕ → Mark L) : Type 0 where
      pub starts : (v : ℕ) (c : Cost) → Begins v c → Counts c → IsAtMost cost (marks v) c
      pub walks : (v : ℕ) (e : L) → HasLabel (marks v) e → StartedWalk Arc Begins v (cost e)
      pub ordered : (v : ℕ) (e : L) → marks v ≡ Open e → IsLatest marks (cost e) v
      pub followed : (v : ℕ) (e : L) → marks v ≡ Settled e → IsFollowed Arc Counts marks v (cost e)

    -- A turn: v, which comes first of all open nodes, is settled, and then nodes are opened with new labels.
    pub record IsTurn (IsNew : ℕ → L → Type 0) (v : ℕ) (e : L) (old new : ℕ → Mark L) : Type 0 where
      pub mid : ℕ → Mark L
      pub next : IsLeastOpen old v e
      pub put : IsPut old v (Settled e) mid
      pub opened : IsOpenedBy IsNew mid new
