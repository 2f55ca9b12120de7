-- The rows of alive nodes show the remaining graph.
use Rattle.std.proofs.Common.{ℕ, ◌≡◌, ◌<◌, ◌⊎◌, Option, Some, None, Contains, refl, subst, inl, inr}
use Rattle.ch_cost.specs.declared.cost.Cost.{Cost}
use Rattle.ch_laws.specs.Contraction.{State, Before, IsAlive, HasArc, Remains, IsNeighbour}
use Rattle.ch_laws.specs.Rows.{Entry, IsPlain, Row, IsRow, Lists, ShowsRemaining}
use Rattle.ch_laws.specs.Theorems.{RowOfAlive}
use Rattle.ch_laws.proofs.ContractionOrder.{before-out, before_not_alive}
use Rattle.ch_laws.specs.Members.{contains_place, place_of}

-- a node has a rank where it is in the order
no_rank : {s : State} {x : ℕ} {r : Row} → IsRow s x r → (Contains s.order x → ⊥) → (o : Option ℕ) → r.rank ≡ o → o ≡ None
no_rank row out None is = refl
no_rank {s} {x} row out (Some k) is = let place = (row.rank k).0 is in absurd (out (contains_place s.order k 0 x place.0 place.1))

-- a node without a rank is alive
pub row_tells_alive : {s : State} {x : ℕ} {r : Row} → x < s.nodes → IsRow s x r → r.rank ≡ None → IsAlive s x
row_tells_alive {s} {x} {r} low row none = record {
  in_range = low;
  waits = λ among.
      let some : r.rank ≡ Some among.0 = (row.rank among.0).1 (among.1, place_of s.order x among) in
      absurd (cc);
}

module _ {bound : Cost} {s : State} {x : ℕ} {r : Row} (plain : IsPlain bound s) (row : IsRow s x r) (alive : IsAlive s x) where
  -- no alive node comes before another, so the arcs between x and alive nodes are entries
  out-listed : (y : ℕ) (c : Cost) → Remains s x y c → Lists r.out y c
  out-listed y c arc =
      let e : Entry = record { other = y; cost = arc.arc.arc.cost; middle = arc.arc.arc.middle } in
      record { entry = e; among = (row.out e).1 (arc.arc.here, λ b. before_not_alive b arc.to_alive); other = refl; costs = arc.arc.costs }

  -- the same of the arcs into x
  inn-listed : (y : ℕ) (c : Cost) → Remains s y x c → Lists r.inn y c
  inn-listed y c arc =
      let e : Entry = record { other = y; cost = arc.arc.arc.cost; middle = arc.arc.arc.middle } in
      record { entry = e; among = (row.inn e).1 (arc.arc.here, λ b. before_not_alive b arc.from_alive); other = refl; costs = arc.arc.costs }

  -- a node that doesn't come before an alive one is alive
  other-alive : (y : ℕ) → y < s.nodes → (Before s.order y x → ⊥) → IsAlive s y
  other-alive y low out = record { in_range = low; waits = λ among. out (before-out s.order y x among alive.waits) }

  -- an entry is an arc of the remaining graph
  out-remains : (y : ℕ) (c : Cost) → Lists r.out y c → Remains s x y c
  out-remains y c lists =
      let e : Entry = lists.entry in
      let is = (row.out e).0 lists.among in
      let low : e.other < s.nodes = (plain.arcs x e.other (record { cost = e.cost; middle = e.middle }) is.0).to_in in
      let has : HasArc s x e.other c = record { arc = record { cost = e.cost; middle = e.middle }; here = is.0; costs = lists.costs } in
      subst (λ n. Remains s x n c) lists.other (record { from_alive = alive; to_alive = other-alive e.other low is.1; arc = has })

  -- the same of the arcs into x
  inn-remains : (y : ℕ) (c : Cost) → Lists r.inn y c → Remains s y x c
  inn-remains y c lists =
      let e : Entry = lists.entry in
      let is = (row.inn e).0 lists.among in
      let low : e.other < s.nodes = (plain.arcs e.other x (record { cost = e.cost; middle = e.middle }) is.0).from_in in
      let has : HasArc s e.other x c = record { arc = record { cost = e.cost; middle = e.middle }; here = is.0; costs = lists.costs } in
      subst (λ n. Remains s n x c) lists.other (record { from_alive = other-alive e.other low is.1; to_alive = alive; arc = has })

  -- the nodes named are the neighbours
  neighbour-listed : (y : ℕ) → IsNeighbour s x y → ((c : Cost) × Lists r.out y c) ⊎ ((c : Cost) × Lists r.inn y c)
  neighbour-listed y is = elim (is.joined) [
    | inl out ↦ inl (out.0, out-listed y out.0 (record { from_alive = alive; to_alive = is.alive; arc = out.1 }))
    | inr into ↦ inr (into.0, inn-listed y into.0 (record { from_alive = is.alive; to_alive = alive; arc = into.1 }))
  ]

  -- and the neighbours are the nodes named
  listed-neighbour : (y : ℕ) → ((c : Cost) × Lists r.out y c) ⊎ ((c : Cost) × Lists r.inn y c) → IsNeighbour s x y
  listed-neighbour y lists = elim lists [
    | inl out ↦
        let arc = out-remains y out.0 out.1 in
        record { alive = arc.to_alive; joined = inl (out.0, arc.arc) }
    | inr into ↦
        let arc = inn-remains y into.0 into.1 in
        record { alive = arc.from_alive; joined = inr (into.0, arc.arc) }
  ]

  -- so the row shows the remaining graph
  pub shows-remaining : ShowsRemaining s x r
  shows-remaining = record {
    unranked = no_rank row alive.waits r.rank refl;
    out = λ y c. (out-listed y c, out-remains y c);
    inn = λ y c. (inn-listed y c, inn-remains y c);
    neighbours = λ y. (neighbour-listed y, listed-neighbour y);
  }

-- the law of rows of alive nodes
pub row_of_alive : RowOfAlive
row_of_alive bound s x r plain row alive = shows-remaining plain row alive
