-- Both sides of a query climb in rank: the one from s along rising links, the other from t against falling ones.
use Rattle.std.specs.Prelude.{ℕ, ◌≡◌, ◌<◌, List, [], ◌∷◌, length, Some, slice_get}
use Rattle.ch_cost.specs.declared.cost.Cost.{Cost}
use Rattle.ch_cost.specs.Cost.{◌⊕◌}
use Rattle.ch_graph.specs.declared.link.Link.{Link}
use Rattle.ch_graph.specs.declared.hierarchy.LinkId.{LinkId}
use Rattle.ch_graph.specs.Hierarchy.{Hierarchy, rank_of}
use Rattle.ch_query.specs.declared.descent.WayBack.{WayBack}
use Rattle.ch_query.specs.declared.seed.Seed.{Seed}
use Rattle.ch_query.specs.declared.side.Side.{Side}
use Rattle.ch_query.specs.declared.side.Side.TheVariants.{Rise, Fall}
use Rattle.ch_query.specs.Places.{link_at}

-- the end where a side comes to a link
abbrev pub foot_of : Side → Link → ℕ
foot_of Rise l = l.from
foot_of Fall l = l.to

-- the end where it leaves the link
abbrev pub head_of : Side → Link → ℕ
head_of Rise l = l.to
head_of Fall l = l.from

-- the ends of the link at a place, and its cost
abbrev pub foot_at : Hierarchy → Side → ℕ → ℕ
foot_at h side k = foot_of side (link_at h k)

abbrev pub head_at : Hierarchy → Side → ℕ → ℕ
head_at h side k = head_of side (link_at h k)

abbrev pub cost_at : Hierarchy → ℕ → Cost
cost_at h k = (link_at h k).cost

-- the ranks of the two ends
abbrev pub foot_rank : Hierarchy → Side → ℕ → ℕ
foot_rank h side k = rank_of h (foot_at h side k)

abbrev pub head_rank : Hierarchy → Side → ℕ → ℕ
head_rank h side k = rank_of h (head_at h side k)

-- the link at this place leads up in rank
pub record Climbs (h : Hierarchy) (side : Side) (k : ℕ) : Type 0 where
  pub within : k < length h.links
  pub rises : foot_rank h side k < head_rank h side k

-- the link at this place leads up from one rank to another
pub record LeadsUp (h : Hierarchy) (side : Side) (q r k : ℕ) : Type 0 where
  pub climbs : Climbs h side k
  pub foot : foot_rank h side k ≡ q
  pub head : head_rank h side k ≡ r

-- the link at this place leads from the node v to one of higher rank
pub record ClimbsFrom (h : Hierarchy) (side : Side) (v k : ℕ) : Type 0 where
  pub within : k < length h.links
  pub foot : foot_at h side k ≡ v
  pub climbs : rank_of h v < rank_of h (head_at h side k)

-- The links at these places lead from a node back down to a seed where a side began, and cost c together with it.
pub data Descends (h : Hierarchy) (side : Side) (seed : Seed) : List LinkId → ℕ → Cost → Type 0 where
  there : Descends h side seed [] seed.node seed.cost
  down : {id : LinkId} {ids : List LinkId} {v : ℕ} {c : Cost} → ClimbsFrom h side v id.0 → Descends h side seed ids v c → Descends h side seed (id ∷ ids) (head_at h side id.0) (c ⊕ cost_at h id.0)

-- The links lead back from the node x, whose label costs c, to the seed at a place of the list where the side began.
pub record IsWayBack (h : Hierarchy) (side : Side) (seeds : List Seed) (x : ℕ) (c : Cost) (back : WayBack) : Type 0 where
  pub seed : Seed
  pub at : slice_get seeds back.seed ≡ Some seed
  pub descends : Descends h side seed back.links.items x c
