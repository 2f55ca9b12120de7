-- Where the two sides of a query meet at the least cost.
use Rattle.std.specs.Prelude.{ℕ, ◌≡◌, ◌⊎◌, List, Option, Some, None, option_map}
use Rattle.ch_cost.specs.declared.cost.Cost.{Cost}
use Rattle.ch_cost.specs.Cost.{◌≼◌, IsNoLonger}
use Rattle.ch_graph.specs.declared.mark.Mark.{Mark}
use Rattle.ch_query.specs.declared.meeting.Meeting.{Meeting}
use Rattle.ch_query.specs.declared.label.Label.{Label}
use Rattle.ch_graph.specs.Hierarchy.{Hierarchy}
use Rattle.ch_query.specs.declared.seed.Seed.{Seed}
use Rattle.ch_query.specs.declared.side.Side.TheVariants.{Rise, Fall}
use Rattle.ch_query.specs.Labels.{AreShort, Meets}
use Rattle.ch_query.specs.Marks.{costs_of, settled_costs, HasLimit, IsNoMore}
use Rattle.ch_query.specs.Searching.{IsSearching}

-- two labels have a short sum, or there is none
abbrev pub IsShortSum : Cost → Option Cost → Option Cost → Option Cost → Type 0
IsShortSum bound up down (Some c) = AreShort bound up down c
IsShortSum bound up down None = (c : Cost) → AreShort bound up down c → ⊥

-- the sides meet at m, and nowhere at less
pub record IsBestOf (bound : Cost) (up down : ℕ → Option Cost) (m : Meeting) : Type 0 where
  pub meets : Meets bound up down m.rank m.cost
  pub least : (r : ℕ) (d : Cost) → Meets bound up down r d → m.cost ≼ d

-- the least meeting of the two sides, or none where they don't meet; labels are by rank here
abbrev pub IsBestMeeting : Cost → (ℕ → Option Cost) → (ℕ → Option Cost) → Option Meeting → Type 0
IsBestMeeting bound up down (Some m) = IsBestOf bound up down m
IsBestMeeting bound up down None = (r : ℕ) (d : Cost) → Meets bound up down r d → ⊥

-- what a meeting costs
abbrev pub cost_of : Option Meeting → Option Cost
cost_of best = option_map (λ (m : Meeting). m.cost) best

-- the node of a meeting has two labels that cost at most what the meeting says, which is within the bound
pub record IsMet (bound : Cost) (up down : ℕ → Option Cost) (m : Meeting) : Type 0 where
  pub cost : Cost
  pub meets : Meets bound up down m.rank cost
  pub at_most : cost ≼ m.cost
  pub short : IsNoLonger m.cost bound

-- The best meeting so far: it was met, and no node that both sides settled has a lesser sum.
pub record IsBestSoFar (bound : Cost) (up down : List (Mark Label)) (best : Option Meeting) : Type 0 where
  pub met : (m : Meeting) → best ≡ Some m → IsMet bound (costs_of up) (costs_of down) m
  pub least : (r : ℕ) (c : Cost) → Meets bound (settled_costs up) (settled_costs down) r c → HasLimit (cost_of best) c

-- What is found where the node of rank r has a label of cost c here and another there: their sum if that is short and
-- below the best meeting so far, or else that.
pub record IsLooked (bound : Cost) (r : ℕ) (c : Cost) (other : Option Cost) (best found : Option Meeting) : Type 0 where
  pub less : IsNoMore (cost_of found) (cost_of best)
  pub seen : (d : Cost) → AreShort bound (Some c) other d → HasLimit (cost_of found) d
  pub from : (m : Meeting) → found ≡ Some m → (best ≡ Some m) ⊎ ((m.rank ≡ r) × AreShort bound (Some c) other m.cost)

-- Where the halves of a query meet: what either knows of the nodes, and that both have labels of the meeting's node.
pub record IsMeetingOf (h : Hierarchy) (starts ends : List Seed) (bound : Cost) (up down : List (Mark Label)) (m : Meeting) : Type 0 where
  pub rises : IsSearching h Rise starts bound up
  pub falls : IsSearching h Fall ends bound down
  pub meets : Meets bound (costs_of up) (costs_of down) m.rank m.cost
