-- The plain search of a graph: what its marks mean, where a label is the cost itself.
use Rattle.std.specs.Prelude.{ℕ, ◌≡◌, ◌⊎◌, List, Some, length, slice_set}
use Rattle.ch_cost.specs.declared.cost.Cost.{Cost}
use Rattle.ch_cost.specs.Cost.{◌≼◌, IsOfArcs, compare}
use Rattle.ch_graph.specs.declared.mark.Mark.{Mark}
use Rattle.ch_graph.specs.declared.mark.Mark.TheVariants.{Open, Settled}
use Rattle.ch_graph.specs.Graph.{Graph, ArcOf, IsDistance}
use Rattle.ch_graph.specs.Marks as marked
use Rattle.ch_graph.specs.Marks.{mark, HasLabel, IsAtMost, Improves, settled_count}
use Rattle.ch_graph.specs.Queue.{Entry, IsQueue}
use Rattle.ch_graph.specs.Searching as searching
use Rattle.ch_graph.specs.Searching.{Only, LeadsTo, IsOpenedBy, IsSearch}

-- what a label costs
abbrev pub own_cost : Cost → Cost
own_cost c = c

-- each cost counts
abbrev pub Any : Cost → Type 0
Any c = Unit {0}

-- nodes are settled in the order of their costs
abbrev pub IsNoDearer : Cost → ℕ → Cost → ℕ → Type 0
IsNoDearer c v d u = c ≼ d

-- A walk of cost c to v was offered: its mark is opened with that cost where it improves, and else nothing changes.
abbrev pub IsOffered : List (Mark Cost) → ℕ → Cost → List (Mark Cost) → Type 0
IsOffered old v c new =
    (Improves own_cost c (mark old v) × (new ≡ slice_set old v (Open c)))
    ⊎ ((Improves own_cost c (mark old v) → ⊥) × (new ≡ old))

-- no node is open; v is open with the cost c, and no open node has a smaller one
abbrev pub NoneOpen : List (Mark Cost) → Type 0
NoneOpen marks = marked.NoneOpen (mark marks)

abbrev pub IsLeastOpen : List (Mark Cost) → ℕ → Cost → Type 0
IsLeastOpen marks v c = searching.IsLeastOpen own_cost IsNoDearer (mark marks) v c

-- the queue waits in the order of the costs
abbrev pub IsQueueOf : List (Mark Cost) → List (Entry Cost) → Type 0
IsQueueOf marks entries = IsQueue ◌≼◌ own_cost compare (mark marks) entries

-- no settled node has a cost above this one
abbrev pub IsLatest : List (Mark Cost) → Cost → ℕ → Type 0
IsLatest marks c v = searching.IsLatest own_cost IsNoDearer (mark marks) c v

-- each arc from v was followed
abbrev pub IsFollowed : Graph → ℕ → Cost → List (Mark Cost) → Type 0
IsFollowed g v c marks = searching.IsFollowed own_cost (ArcOf g) Any (mark marks) v c

-- Marks that come of others by opening nodes with the costs of walks over v, which is reached at the cost c.
pub record IsOpenedFrom (g : Graph) (v : ℕ) (c : Cost) (old new : List (Mark Cost)) : Type 0 where
  pub nodes : length new ≡ length old
  pub count : settled_count new ≡ settled_count old
  pub is : IsOpenedBy own_cost (LeadsTo (ArcOf g) v c) (mark old) (mark new)

-- the marks between two turns of a search of a graph from s
abbrev pub IsGraphSearch : Graph → ℕ → (ℕ → Mark Cost) → Type 0
IsGraphSearch g s marks = IsSearch own_cost IsNoDearer (ArcOf g) Any (Only s) marks

-- and of one that goes on until t is settled, of which the costs stay in range
pub record IsSearchTo (g : Graph) (s t : ℕ) (marks : List (Mark Cost)) : Type 0 where
  pub nodes : length marks ≡ g.nodes
  pub is : IsGraphSearch g s (mark marks)
  pub fits : (v : ℕ) (c : Cost) → HasLabel (mark marks v) c → IsOfArcs (settled_count marks) c
  pub unsettled : (c : Cost) → mark marks t ≡ Settled c → ⊥

-- the cost of each settled node is its distance from s
abbrev pub AreDistances : Graph → ℕ → (ℕ → Mark Cost) → Type 0
AreDistances g s marks = (v : ℕ) (c : Cost) → marks v ≡ Settled c → IsDistance g s v (Some c)

-- it is, between two turns
abbrev pub SettledIsLeast : Type 0
SettledIsLeast = (g : Graph) (s : ℕ) (marks : ℕ → Mark Cost) → IsGraphSearch g s marks → AreDistances g s marks
