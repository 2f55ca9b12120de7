-- What the contraction of nodes does to a graph, and the hierarchy that it ends in.
use Rattle.std.specs.Prelude.{ℕ, ◌≡◌, ◌≢◌, ◌<◌, ◌≤◌, ◌⊎◌, ◌↔◌, cond, ◌&&◌, nat_eq, List, [], ◌∷◌, ◌++◌, length, Option, Some, None, AllPairs, Contains, slice_index}
use Rattle.ch_cost.specs.declared.cost.Cost.{Cost}
use Rattle.ch_cost.specs.Cost.{◌⊕◌, ◌≼◌, ◌≺◌, IsWithin}
use Rattle.ch_graph.specs.declared.link.Link.{Link}
use Rattle.ch_graph.specs.declared.version.Version.TheVariants.{Two}
use Rattle.ch_graph.specs.Walk.{Walk}
pub use Rattle.ch_laws.specs.declared.shortcut.Shortcut.{Shortcut}
use Rattle.ch_graph.specs.Graph.{Graph, ArcOf}
use Rattle.ch_graph.specs.Limits.{bound_of}
use Rattle.ch_graph.specs.LeastArcs.{IsLeastArc}
use Rattle.ch_graph.specs.Hierarchy.{Hierarchy, ComesBefore, rank_of}

-- States

-- the arc of a pair of nodes: its cost, and the node where its halves meet, or none for an arc of the graph
pub record StateArc : Type 0 where
  pub cost : Cost
  pub middle : Option ℕ

-- the nodes are the numbers below `nodes`; `order` has the contracted ones, first to last
pub record State : Type 0 where
  pub nodes : ℕ
  pub order : List ℕ
  pub arc : ℕ → ℕ → Option StateArc

-- x comes before y in the order; nodes that aren't in it come after all that are
pub record Before (order : List ℕ) (x y : ℕ) : Type 0 where
  pub place : ℕ
  pub within : place < length order
  pub here : slice_index order place ≡ x
  pub not_yet : (k : ℕ) → k ≤ place → slice_index order k ≢ y

-- a node that isn't contracted
pub record IsAlive (s : State) (x : ℕ) : Type 0 where
  pub in_range : x < s.nodes
  pub waits : Contains s.order x → ⊥

-- the arc from x to y costs c
pub record HasArc (s : State) (x y : ℕ) (c : Cost) : Type 0 where
  pub arc : StateArc
  pub here : s.arc x y ≡ Some arc
  pub costs : arc.cost ≡ c

-- the remaining graph: the arcs between alive nodes
pub record Remains (s : State) (x y : ℕ) (c : Cost) : Type 0 where
  pub from_alive : IsAlive s x
  pub to_alive : IsAlive s y
  pub arc : HasArc s x y c

-- the arc of a pair before any contraction: the least of the graph, or none where the graph has none
abbrev pub IsStartArc : Graph → ℕ → ℕ → Option StateArc → Type 0
IsStartArc g x y (Some arc) = IsLeastArc g x y arc.cost × (arc.middle ≡ None)
IsStartArc g x y None = (c : Cost) → ArcOf g x y c → ⊥

-- the state of a graph before any contraction
pub record IsStart (g : Graph) (s : State) : Type 0 where
  pub nodes : s.nodes ≡ g.nodes
  pub order : s.order ≡ []
  pub loops : (x : ℕ) → s.arc x x ≡ None
  pub arcs : (x y : ℕ) → x ≢ y → IsStartArc g x y (s.arc x y)

-- Lawful contractions

-- from u to another node w by way of v, in the remaining graph: the arc into v and the arc out of it cost `sum`
pub record Through (s : State) (v u w : ℕ) (sum : Cost) : Type 0 where
  pub into : Cost
  pub out : Cost
  pub apart : u ≢ w
  pub first : Remains s u v into
  pub second : Remains s v w out
  pub adds : sum ≡ into ⊕ out

-- an arc of the remaining graph without v
pub record Avoids (s : State) (v x y : ℕ) (c : Cost) : Type 0 where
  pub remains : Remains s x y c
  pub from_other : x ≢ v
  pub to_other : y ≢ v

-- a walk of the remaining graph from u to w without v that costs at most `sum`
pub record HasWitness (s : State) (v u w : ℕ) (sum : Cost) : Type 0 where
  pub cost : Cost
  pub walk : Walk (Avoids s v) u w cost
  pub at_most : cost ≼ sum

-- the shortcut is from u to w
abbrev pub IsFor : Shortcut → ℕ → ℕ → Type 0
IsFor p u w = (p.from ≡ u) × (p.to ≡ w)

-- no shortcut of the list is from u to w
abbrev pub NoShortcut : List Shortcut → ℕ → ℕ → Type 0
NoShortcut put u w = (p : Shortcut) → Contains put p → IsFor p u w → ⊥

-- A shortcut that a contraction of v may put in: it costs what the way through v does, isn't heavy, and costs less
-- than the arc that is there.
pub record IsAllowed (bound : Cost) (s : State) (v : ℕ) (p : Shortcut) : Type 0 where
  pub through : Through s v p.from p.to p.cost
  pub within : IsWithin p.cost bound
  pub less : (c : Cost) → HasArc s p.from p.to c → p.cost ≺ c

-- shortcuts that a contraction of v may put in, at most one for each pair
pub record IsPlan (bound : Cost) (s : State) (v : ℕ) (put : List Shortcut) : Type 0 where
  pub alive : IsAlive s v
  pub once : AllPairs (λ p q. IsFor p q.from q.to → ⊥) put
  pub allowed : (p : Shortcut) → Contains put p → IsAllowed bound s v p

-- each pair by way of v that isn't heavy and gets no shortcut has a witness
abbrev pub IsWitnessed : Cost → State → ℕ → List Shortcut → Type 0
IsWitnessed bound s v put = (u w : ℕ) (sum : Cost) → Through s v u w sum → IsWithin sum bound → NoShortcut put u w → HasWitness s v u w sum

-- v becomes contracted, these shortcuts are put in, and nothing else changes
pub record Puts (bound : Cost) (old : State) (v : ℕ) (put : List Shortcut) (new : State) : Type 0 where
  pub plan : IsPlan bound old v put
  pub nodes : new.nodes ≡ old.nodes
  pub order : new.order ≡ old.order ++ (v ∷ [])
  pub placed : (p : Shortcut) → Contains put p → new.arc p.from p.to ≡ Some (record { cost = p.cost; middle = Some v })
  pub others : (u w : ℕ) → NoShortcut put u w → new.arc u w ≡ old.arc u w
  pub witnessed : IsWitnessed bound old v put

-- the arc that the shortcuts of the list have for a pair
abbrev pub shortcut_arc : List Shortcut → ℕ → ℕ → ℕ → Option StateArc
shortcut_arc [] v u w = None
shortcut_arc (p ∷ ps) v u w = cond (nat_eq p.from u && nat_eq p.to w) (Some (record { cost = p.cost; middle = Some v })) (shortcut_arc ps v u w)

-- the first that is there
abbrev pub or_else : Option StateArc → Option StateArc → Option StateArc
or_else (Some arc) other = Some arc
or_else None other = other

-- the state after v is contracted and these shortcuts are put in
abbrev pub contracted : State → ℕ → List Shortcut → State
contracted s v put = record { nodes = s.nodes; order = s.order ++ (v ∷ []); arc = λ u w. or_else (shortcut_arc put v u w) (s.arc u w) }

-- x is an alive node with an arc to or from v
pub record IsNeighbour (s : State) (v x : ℕ) : Type 0 where
  pub alive : IsAlive s x
  pub joined : ((c : Cost) × HasArc s v x c) ⊎ ((c : Cost) × HasArc s x v c)

-- an entry of the log of contractions
pub record Contraction : Type 0 where
  pub node : ℕ
  pub rank : ℕ
  pub neighbours : List ℕ
  pub shortcuts : ℕ

-- A lawful contraction, as its entry records it: the rank is the number of nodes contracted before, and the neighbours
-- are all those of the node, rising.
pub record Step (bound : Cost) (old : State) (e : Contraction) (new : State) : Type 0 where
  pub put : List Shortcut
  pub puts : Puts bound old e.node put new
  pub rank : e.rank ≡ length old.order
  pub shortcuts : e.shortcuts ≡ length put
  pub rising : AllPairs (λ x y. x < y) e.neighbours
  pub neighbours : (x : ℕ) → Contains e.neighbours x ↔ IsNeighbour old e.node x

-- lawful contractions, one after the other
pub data Run (bound : Cost) : State → List Contraction → State → Type 0 where
  rest : {s : State} → Run bound s [] s
  next : {old mid new : State} {e : Contraction} {log : List Contraction} → Step bound old e mid → Run bound mid log new → Run bound old (e ∷ log) new

-- lawful contractions lead from the start of the graph to the state, and the log has their entries
pub record IsReached (g : Graph) (log : List Contraction) (s : State) : Type 0 where
  pub start : State
  pub starts : IsStart g start
  pub run : Run (bound_of g) start log s

-- The end

-- every node is contracted
abbrev pub IsOver : State → Type 0
IsOver s = (x : ℕ) → x < s.nodes → Contains s.order x

-- the hierarchy of a state that is over: a node's rank is its place in the order, and the links are all of the arcs
pub record IsMade (g : Graph) (s : State) (h : Hierarchy) : Type 0 where
  pub version : h.version ≡ Two
  pub nodes : length h.ranks ≡ s.nodes
  pub ranks : (k : ℕ) → k < length s.order → rank_of h (slice_index s.order k) ≡ k
  pub sorted : AllPairs ComesBefore h.links
  pub links : (l : Link) → Contains h.links l ↔ (s.arc l.from l.to ≡ Some (record { cost = l.cost; middle = l.middle }))
  pub bound : h.bound ≡ bound_of g
