-- The laws of contraction, as statements.
use Rattle.std.specs.Prelude.{ℕ, ◌≡◌, ◌-◌, ◌^◌, ◌<◌, ◌≤◌, List, [], ◌∷◌, ◌++◌, length, Option, Some, map}
use Rattle.ch_cost.specs.declared.cost.Cost.{Cost}
use Rattle.ch_cost.specs.Cost.{cost_of_arcs, IsWithin}
use Rattle.ch_graph.specs.declared.link.Link.{Link}
use Rattle.ch_graph.specs.Walk.{Along}
use Rattle.ch_graph.specs.Graph.{Graph, ArcOf, IsDistance}
use Rattle.ch_graph.specs.Limits.{IsGraph, bound_of}
use Rattle.ch_graph.specs.Hierarchy.{Hierarchy, Chain, IsRiseFall, IsValue, UnfoldsAll, IsWellMade, IsArcOf, IsRight}
use Rattle.ch_laws.specs.Contraction.{State, IsAlive, Shortcut, IsPlan, IsWitnessed, Puts, contracted, Contraction, Step, IsStart, IsReached, IsOver, IsMade}
use Rattle.ch_laws.specs.Rows.{IsPlain, Row, IsRow, ShowsRemaining, AreRows, AreUpdated, IsStartRow, row_at, state_by}
use Rattle.ch_laws.specs.Verdicts.{AreRead, AreVerdicts}

-- the bound of a graph is at most that of the largest graph with the heaviest arcs
abbrev pub BoundsFit : Type 0
BoundsFit = (g : Graph) → IsGraph g → IsWithin (bound_of g) (cost_of_arcs (2 ^ 25 - 1) (2 ^ 32 - 1))

-- the hierarchy of a reached state is right
abbrev pub AlwaysRight : Type 0
AlwaysRight = (g : Graph) (log : List Contraction) (s : State) (h : Hierarchy) → IsGraph g → IsReached g log s → IsOver s → IsMade g s h → IsRight g h

-- and it is well made
abbrev pub AlwaysWellMade : Type 0
AlwaysWellMade = (g : Graph) (log : List Contraction) (s : State) (h : Hierarchy) → IsGraph g → IsReached g log s → IsOver s → IsMade g s h → IsWellMade h

-- The links lead from s to t over the top, their cost is the value, and the arcs are what they represent.
pub record IsLeastRoute (h : Hierarchy) (s t : ℕ) (c : Cost) (links arcs : List Link) : Type 0 where
  pub leads : IsRiseFall h links s t c
  pub least : IsValue h s t (Some c)
  pub unfolds : UnfoldsAll h links arcs

-- a least rise-fall walk of a right hierarchy represents a walk of the graph that has fewer arcs than there are nodes
abbrev pub NeverTooLong : Type 0
NeverTooLong = (g : Graph) (h : Hierarchy) (s t : ℕ) (c : Cost) (links arcs : List Link) → IsGraph g → IsRight g h → s < g.nodes → t < g.nodes → IsLeastRoute h s t c links arcs → Chain (IsArcOf g) arcs s t c × (length arcs ≤ g.nodes - 1)

-- and the nodes that it comes to lie along a walk of the graph whose cost is the distance
abbrev pub RouteIsLeast : Type 0
RouteIsLeast = (g : Graph) (h : Hierarchy) (s t : ℕ) (c : Cost) (links arcs : List Link) → IsGraph g → IsRight g h → s < g.nodes → t < g.nodes → IsLeastRoute h s t c links arcs → Along (ArcOf g) (s ∷ map (λ l. l.to) arcs) s t c × IsDistance g s t (Some c)

-- a reached state after one more lawful contraction is reached, by the log with the entry at its end
abbrev pub ReachesOn : Type 0
ReachesOn = (g : Graph) (log : List Contraction) (s : State) (e : Contraction) (new : State) → IsReached g log s → Step (bound_of g) s e new → IsReached g (log ++ e ∷ []) new

-- shortcuts that may be put in, with a witness for each other pair, make a lawful contraction
abbrev pub PlanIsLawful : Type 0
PlanIsLawful = (bound : Cost) (s : State) (v : ℕ) (put : List Shortcut) → IsPlan bound s v put → IsWitnessed bound s v put → Puts bound s v put (contracted s v put)

-- verdicts by rows that are still those of the state are a plan with its witnesses
abbrev pub VerdictsAreLawful : Type 0
VerdictsAreLawful = (g : Graph) (log : List Contraction) (s : State) (seen : ℕ → Option Row) (v : ℕ) (put : List Shortcut) → IsGraph g → IsReached g log s → v < s.nodes → AreRead s seen → AreVerdicts (bound_of g) seen v put → IsPlan (bound_of g) s v put × IsWitnessed (bound_of g) s v put

-- the row of an alive node shows the remaining graph there
abbrev pub RowOfAlive : Type 0
RowOfAlive = (bound : Cost) (s : State) (x : ℕ) (r : Row) → IsPlain bound s → IsRow s x r → IsAlive s x → ShowsRemaining s x r

-- the rows of all nodes, with the order, are the state
abbrev pub RowsAreState : Type 0
RowsAreState = (bound : Cost) (s : State) (rows : List Row) → IsPlain bound s → AreRows s rows → state_by rows s.order ≡ s

-- the rows of least arcs are those of a start
abbrev pub RowsStart : Type 0
RowsStart = (g : Graph) (rows : List Row) → IsGraph g → length rows ≡ g.nodes → ((x : ℕ) → x < g.nodes → IsStartRow g x (row_at rows x)) → IsStart g (state_by rows []) × AreRows (state_by rows []) rows × IsPlain (bound_of g) (state_by rows [])

-- and rows that are updated are those of the next state
abbrev pub RowsGoOn : Type 0
RowsGoOn = (bound : Cost) (s : State) (v : ℕ) (put : List Shortcut) (old new : List Row) → IsPlain bound s → IsPlan bound s v put → AreRows s old → AreUpdated s put v old new → AreRows (contracted s v put) new × IsPlain bound (contracted s v put)

-- each alive node of a reached state can be contracted next
abbrev pub GoesOn : Type 0
GoesOn = (g : Graph) (log : List Contraction) (s : State) (v : ℕ) → IsGraph g → IsReached g log s → IsAlive s v → (e : Contraction) × (new : State) × Step (bound_of g) s e new × (e.node ≡ v)

-- contractions of each graph go on to the end, and a hierarchy is made
abbrev pub HasRun : Type 0
HasRun = (g : Graph) → IsGraph g → (log : List Contraction) × (s : State) × (h : Hierarchy) × IsReached g log s × IsOver s × IsMade g s h
