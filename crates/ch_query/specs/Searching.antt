-- One side of a query, as its marks describe it: a search by marks over ranks.
use Rattle.std.specs.Prelude.{ℕ, ◌≡◌, ◌+◌, ◌<◌, ◌⊎◌, true, false, Bool, List, length, slice_index, slice_index_or, Option}
use Rattle.ch_cost.specs.declared.cost.Cost.{Cost}
use Rattle.ch_cost.specs.Cost.{◌⊕◌, IsNoLonger, IsOfWalks}
use Rattle.ch_graph.specs.declared.mark.Mark.{Mark}
use Rattle.ch_graph.specs.declared.mark.Mark.TheVariants.{Settled}
use Rattle.ch_graph.specs.Hierarchy.{Hierarchy, IsWellMade}
use Rattle.ch_graph.specs.Marks.{mark, HasLabel, IsAtMost, settled_count}
use Rattle.ch_graph.specs.Searching.{LeadsTo, IsOpenedBy, IsSearch}
use Rattle.ch_graph.specs.Searching as searching
use Rattle.ch_query.specs.declared.label.Label.{Label}
use Rattle.ch_query.specs.declared.seed.Seed.{Seed}
use Rattle.ch_query.specs.declared.side.Side.{Side}
use Rattle.ch_query.specs.declared.side.Side.TheVariants.{Rise, Fall}
use Rattle.ch_query.specs.declared.upward.UpwardStep.{UpwardStep}
use Rattle.ch_query.specs.Climb.{head_rank, cost_at, Climbs, LeadsUp}
use Rattle.ch_query.specs.Labels.{CountsBelow, IsBest}
use Rattle.ch_query.specs.Seeds.{AreSeeds, IsSeedAt, IsValueBetween}
use Rattle.ch_query.specs.Upward.{step_along}
use Rattle.ch_query.specs.Marks.{label_cost, costs_of, IsNoLater, IsStopped}

-- an arc of a side, from one rank to another: a link that it climbs, and what that costs
pub record LinkArc (h : Hierarchy) (side : Side) (q r : ℕ) (c : Cost) : Type 0 where
  pub link : ℕ
  pub leads : LeadsUp h side q r link
  pub cost : cost_at h link ≡ c

-- the marks between two turns of a side from its seeds, of which the sums below the limit count
abbrev pub IsClimbing : Hierarchy → Side → List Seed → Cost → Option Cost → List (Mark Label) → Type 0
IsClimbing h side seeds bound limit marks = IsSearch label_cost IsNoLater (LinkArc h side) (CountsBelow bound limit) (IsSeedAt h seeds) (mark marks)

-- Where two sides have no open node below the best sum of two labels of a node, that sum is the value: they may stop there.
abbrev pub StopIsRight : Type 0
StopIsRight =
    (h : Hierarchy) (starts ends : List Seed) (bound : Cost) (up down : List (Mark Label)) (best : Option Cost) → IsWellMade h → AreSeeds h starts → AreSeeds h ends
    → IsClimbing h Rise starts bound best up → IsClimbing h Fall ends bound best down → IsStopped up best → IsStopped down best
    → IsBest bound (costs_of up) (costs_of down) best → IsValueBetween h starts ends bound best

-- The labels that a side keeps

-- the label e of the rank r is that of a seed
pub record IsOfSeed (h : Hierarchy) (seeds : List Seed) (r : ℕ) (e : Label) : Type 0 where
  pub seed : IsSeedAt h seeds r e.cost
  pub foot : e.foot ≡ r

-- the label e came to the rank r by a link from the rank that it names, whose node is settled
pub record ComesFrom (h : Hierarchy) (side : Side) (marks : List (Mark Label)) (r : ℕ) (e : Label) : Type 0 where
  pub foot : Label
  pub settled : mark marks e.foot ≡ Settled foot
  pub over : LeadsTo (LinkArc h side) e.foot foot.cost r e.cost

-- where a label is from
abbrev pub IsFrom : Hierarchy → Side → List Seed → List (Mark Label) → ℕ → Label → Type 0
IsFrom h side seeds marks r e = IsOfSeed h seeds r e ⊎ ComesFrom h side marks r e

-- Each label says where it is from, and its cost stays in range.
pub record IsSearching (h : Hierarchy) (side : Side) (seeds : List Seed) (bound : Cost) (marks : List (Mark Label)) : Type 0 where
  pub nodes : length marks ≡ length h.ranks
  pub origin : (r : ℕ) (e : Label) → HasLabel (mark marks r) e → IsFrom h side seeds marks r e
  pub fits : (r : ℕ) (e : Label) → HasLabel (mark marks r) e → IsOfWalks (r + 1) e.cost
  pub short : (r : ℕ) (e : Label) → HasLabel (mark marks r) e → IsNoLonger e.cost bound

-- One turn

-- at a place are a link that climbs and the step along it
pub record IsStepAt (h : Hierarchy) (side : Side) (links : List ℕ) (steps : List UpwardStep) (place : ℕ) : Type 0 where
  pub link_in : place < length links
  pub step_in : place < length steps
  pub climbs : Climbs h side (slice_index links place)
  pub along : (s : UpwardStep) → slice_index_or steps place s ≡ step_along h side (slice_index links place)

-- at a place is a step of one of the sides
abbrev pub IsOneStepAt : Hierarchy → List ℕ → List UpwardStep → ℕ → Type 0
IsOneStepAt h links steps place = (side : Side) × IsStepAt h side links steps place

-- the label e of the rank q, to which some link leads from the rank r, whose own cost is c
pub record ClimbsTo (h : Hierarchy) (side : Side) (bound : Cost) (r : ℕ) (c : Cost) (q : ℕ) (e : Label) : Type 0 where
  pub over : LeadsTo (LinkArc h side) r c q e.cost
  pub foot : e.foot ≡ r
  pub short : IsNoLonger e.cost bound

-- Marks that come of others by opening nodes over links from the rank r, whose cost is c.
pub record IsOpenedOver (h : Hierarchy) (side : Side) (bound : Cost) (r : ℕ) (c : Cost) (old new : List (Mark Label)) : Type 0 where
  pub nodes : length new ≡ length old
  pub count : settled_count new ≡ settled_count old
  pub is : IsOpenedBy label_cost (ClimbsTo h side bound r c) (mark old) (mark new)

-- the link at k was followed from a foot of cost c, where the sum counts below the limit
abbrev pub IsFollowed : Hierarchy → Side → Cost → Cost → Option Cost → List (Mark Label) → ℕ → Type 0
IsFollowed h side bound c limit marks k = CountsBelow bound limit (c ⊕ cost_at h k) → IsAtMost label_cost (mark marks (head_rank h side k)) (c ⊕ cost_at h k)

-- each link that climbs from the rank r, whose cost is c, was
abbrev pub ArePassed : Hierarchy → Side → Cost → ℕ → Cost → Option Cost → List (Mark Label) → Type 0
ArePassed h side bound r c limit marks = searching.IsFollowed label_cost (LinkArc h side) (CountsBelow bound limit) (mark marks) r c

-- A turn settled one more node, or there was none to settle below the limit and nothing changed.
abbrev pub IsTurned : Bool → List (Mark Label) → List (Mark Label) → Option Cost → Option Cost → Type 0
IsTurned true old new limit best = settled_count new ≡ settled_count old + 1
IsTurned false old new limit best = IsStopped old limit × (new ≡ old) × (best ≡ limit)
