-- The rows of a graph in which no node is contracted. Contracts of private functions alone cite it.
use Rattle.std.specs.Prelude.{ℕ, ◌≡◌, ◌≢◌, ◌+◌, ◌<◌, ◌≤◌, ◌⊎◌, ◌++◌, ◌&&◌, Bool, cond, nat_eq, List, [], ◌∷◌, None, length, map, filter, All, AllPairs, Contains}
use Rattle.ch_cost.specs.Cost.{of_weight}
use Rattle.ch_graph.specs.declared.road.Road.{Road}
use Rattle.ch_laws.specs.declared.entry.Entry.{Entry}
use Rattle.ch_laws.specs.Rows.{Row, row_at}

-- the entry of an arc in the row of the node that it leaves, and of the one that it comes to
abbrev pub out_entry : Road → Entry
out_entry r = record { other = r.to; cost = of_weight r.weight; middle = None }

abbrev pub in_entry : Road → Entry
in_entry r = record { other = r.from; cost = of_weight r.weight; middle = None }

-- the row of x with these arcs, in their order
unfoldable pub opening_row : List Road → ℕ → Row
opening_row arcs x = record {
  out = map out_entry (filter (λ r. nat_eq r.from x) arcs);
  inn = map in_entry (filter (λ r. nat_eq r.to x) arcs);
  rank = None;
}

-- the rows of these nodes from one on, so many
pub record AreOpening (arcs : List Road) (from nodes : ℕ) (all : List Row) : Type 0 where
  pub count : length all ≡ nodes
  pub rows : (k : ℕ) → k < nodes → row_at all k ≡ opening_row arcs (from + k)

-- the row of x with one more arc, where it is an end of it
abbrev pub with_out : Road → ℕ → Row → Row
with_out r x row = record row { out = row.out ++ cond (nat_eq r.from x) (out_entry r ∷ []) [] }

abbrev pub with_in : Road → ℕ → Row → Row
with_in r x row = record row { inn = row.inn ++ cond (nat_eq r.to x) (in_entry r ∷ []) [] }

unfoldable pub with_arc : Road → ℕ → Row → Row
with_arc r x row = with_in r x (with_out r x row)

-- by the node that they leave, and then by the one that they come to; no two have the same ends
abbrev pub EndsRise : List Road → Type 0
EndsRise = AllPairs (λ a b. (a.from < b.from) ⊎ ((a.from ≡ b.from) × (a.to < b.to)))

abbrev pub HaveSameEnds : Road → Road → Type 0
HaveSameEnds a b = (a.from ≡ b.from) × (a.to ≡ b.to)

abbrev pub have_same_ends : Road → Road → Bool
have_same_ends a b = nat_eq a.from b.from && nat_eq a.to b.to

-- a is at or before b where arcs are sorted by their ends and then by their weight
pub record ComesNoLater (a b : Road) : Type 0 where
  pub from : a.from ≤ b.from
  pub to : a.from ≡ b.from → a.to ≤ b.to
  pub weight : a.from ≡ b.from → a.to ≡ b.to → a.weight ≤ b.weight

-- the least of the arcs between each two different nodes
pub record AreLeast (arcs least : List Road) : Type 0 where
  pub rising : EndsRise least
  pub among : All (λ r. Contains arcs r) least
  pub apart : All (λ r. r.from ≢ r.to) least
  pub at_most : (r q : Road) → Contains least r → Contains arcs q → HaveSameEnds r q → r.weight ≤ q.weight
  pub whole : (q : Road) → Contains arcs q → q.from ≢ q.to → (r : Road) × Contains least r × HaveSameEnds r q
