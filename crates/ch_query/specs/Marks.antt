-- What a side of a query knows of the nodes: a list of marks, one for each rank, of which the label is a cost and the
-- rank that the climb came from.
use Rattle.std.specs.Prelude.{ℕ, ◌≡◌, ◌≤◌, List, Option, Some, None}
use Rattle.ch_cost.specs.declared.cost.Cost.{Cost}
use Rattle.ch_cost.specs.Cost.{◌≼◌, ◌≺◌, length_of, IsSummable}
use Rattle.ch_graph.specs.declared.mark.Mark.{Mark}
use Rattle.ch_graph.specs.declared.mark.Mark.TheVariants.{Unseen, Open, Settled}
use Rattle.ch_graph.specs.Marks.{mark, label_in, HasLabel}
use Rattle.ch_graph.specs.Searching as searching
use Rattle.ch_query.specs.declared.label.Label.{Label}

-- what a label costs
abbrev pub label_cost : Label → Cost
label_cost e = e.cost

abbrev pub option_cost : Option Label → Option Cost
option_cost None = None
option_cost (Some e) = Some e.cost

-- the labels as costs
abbrev pub costs_of : List (Mark Label) → ℕ → Option Cost
costs_of marks r = option_cost (label_in (mark marks r))

-- the costs of the settled nodes alone
abbrev pub settled_in : Mark Label → Option Cost
settled_in Unseen = None
settled_in (Open e) = None
settled_in (Settled e) = Some e.cost

abbrev pub settled_costs : List (Mark Label) → ℕ → Option Cost
settled_costs marks r = settled_in (mark marks r)

-- Nodes are settled in the order of the lengths of their labels, and where these are equal in that of their ranks: the
-- node of rank q, whose label costs c, comes no later than that of rank r, whose label costs d.
pub record IsNoLater (c : Cost) (q : ℕ) (d : Cost) (r : ℕ) : Type 0 where
  pub length : length_of c ≤ length_of d
  pub rank : length_of c ≡ length_of d → q ≤ r

-- no settled node comes later than that of rank r with a label of cost c
abbrev pub IsLatest : List (Mark Label) → Cost → ℕ → Type 0
IsLatest marks c r = searching.IsLatest label_cost IsNoLater (mark marks) c r

-- the node of rank r is open with the label e, and no open node comes before it
abbrev pub IsLeastOpen : List (Mark Label) → ℕ → Label → Type 0
IsLeastOpen marks r e = searching.IsLeastOpen label_cost IsNoLater (mark marks) r e

-- if the node of rank r is settled, its label costs at most c
abbrev pub IsSettledAtMost : List (Mark Label) → ℕ → Cost → Type 0
IsSettledAtMost marks r c = (e : Label) → mark marks r ≡ Settled e → e.cost ≼ c

-- the cost is below the limit, where there is one
abbrev pub IsBelow : Cost → Option Cost → Type 0
IsBelow c None = Unit {0}
IsBelow c (Some b) = c ≺ b

-- the length is no more than that of the limit, where there is one
abbrev pub IsUpTo : ℕ → Option Cost → Type 0
IsUpTo n None = Unit {0}
IsUpTo n (Some b) = n ≤ length_of b

-- there is a limit, and it is at most this cost
abbrev pub HasLimit : Option Cost → Cost → Type 0
HasLimit limit c = (b : Cost) × (limit ≡ Some b) × (b ≼ c)

-- there is a limit where there was one, and it is no more
abbrev pub IsNoMore : Option Cost → Option Cost → Type 0
IsNoMore new old = (a : Cost) → old ≡ Some a → HasLimit new a

-- no open node has a label below the limit
abbrev pub IsStopped : List (Mark Label) → Option Cost → Type 0
IsStopped marks limit = (r : ℕ) (e : Label) → mark marks r ≡ Open e → HasLimit limit e.cost

-- each label costs little enough to be a summand
abbrev pub FitAll : List (Mark Label) → Type 0
FitAll marks = (r : ℕ) (e : Label) → HasLabel (mark marks r) e → IsSummable e.cost
