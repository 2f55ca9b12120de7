-- What a proposal rests on: rows that were read, ways along them, and a verdict for each pair by way of a node.
use Rattle.std.specs.Prelude.{ℕ, ◌≡◌, ◌≢◌, Option, Some, None, List, AllPairs, Contains}
use Rattle.ch_cost.specs.declared.cost.Cost.{Cost}
use Rattle.ch_cost.specs.Cost.{◌⊕◌, ◌≼◌, ◌≺◌, IsWithin}
use Rattle.ch_graph.specs.Walk.{Walk}
use Rattle.ch_laws.specs.Contraction.{State, Shortcut, IsFor, NoShortcut}
use Rattle.ch_laws.specs.Rows.{Row, IsRow, Lists}

-- each row that was read is the row of its node
abbrev pub AreRead : State → (ℕ → Option Row) → Type 0
AreRead s seen = (x : ℕ) (r : Row) → seen x ≡ Some r → IsRow s x r

-- the row of x was read, has no rank, and lists an arc to y; neither is v
pub record SeenArc (seen : ℕ → Option Row) (v x y : ℕ) (c : Cost) : Type 0 where
  pub row : Row
  pub read : seen x ≡ Some row
  pub unranked : row.rank ≡ None
  pub listed : Lists row.out y c
  pub from_other : x ≢ v
  pub to_other : y ≢ v

-- a way from u to w along such arcs costs at most `sum`
pub record HasWay (seen : ℕ → Option Row) (v u w : ℕ) (sum : Cost) : Type 0 where
  pub cost : Cost
  pub way : Walk (SeenArc seen v) u w cost
  pub at_most : cost ≼ sum

-- u to another node w by way of v, as the row of v lists them
pub record ListsThrough (row : Row) (u w : ℕ) (sum : Cost) : Type 0 where
  pub into : Cost
  pub out : Cost
  pub apart : u ≢ w
  pub first : Lists row.inn u into
  pub second : Lists row.out w out
  pub adds : sum ≡ into ⊕ out

-- The verdict on the pair is a shortcut: by the row of v it costs this much and isn't heavy, and the row of the first
-- node, where it has no rank, lists no arc of at most that cost.
pub record IsForShortcut (bound : Cost) (seen : ℕ → Option Row) (row : Row) (p : Shortcut) : Type 0 where
  pub through : ListsThrough row p.from p.to p.cost
  pub within : IsWithin p.cost bound
  pub first_row : Row
  pub first_read : seen p.from ≡ Some first_row
  pub less : first_row.rank ≡ None → (c : Cost) → Lists first_row.out p.to c → p.cost ≺ c

-- The row of v was read, each of these shortcuts is a verdict by the rows that were read, at most one for each pair,
-- and each other pair that isn't heavy has a way.
pub record AreVerdicts (bound : Cost) (seen : ℕ → Option Row) (v : ℕ) (put : List Shortcut) : Type 0 where
  pub row : Row
  pub read : seen v ≡ Some row
  pub unranked : row.rank ≡ None
  pub once : AllPairs (λ p q. IsFor p q.from q.to → ⊥) put
  pub shortcuts : (p : Shortcut) → Contains put p → IsForShortcut bound seen row p
  pub ways : (u w : ℕ) (sum : Cost) → ListsThrough row u w sum → IsWithin sum bound → NoShortcut put u w → HasWay seen v u w sum
