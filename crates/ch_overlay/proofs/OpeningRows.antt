-- The rows of a graph in which no node is contracted.
use Rattle.std.proofs.Common.{ℕ, ◌≡◌, ◌+◌, ◌-◌, ◌<◌, cond, nat_eq, true, false, Bool, List, [], ◌∷◌, ◌++◌, length, get_or, take, map, replicate, None, arith, refl, sym, ◌∙◌, ap, inl, inr}
use Rattle.std.specs.List.{filter}
use Rattle.std.proofs.lemmas.Bool.{cases_lt}
use Rattle.std.proofs.lemmas.List.{map-append, length-append, length-replicate, get_or-replicate, get_or_append_left, get_or-append_right}
use Rattle.std.proofs.lemmas.List.Elements.{filter_more}
use Rattle.ch_graph.specs.declared.road.Road.{Road}
use Rattle.ch_laws.specs.declared.entry.Entry.{Entry}
use Rattle.ch_laws.specs.Rows.{Row}
use Rattle.ch_overlay.specs.Overlay.{no_arcs, row_at}
use Rattle.ch_overlay.specs.Opening.{out_entry, in_entry, opening_row, with_out, with_in, with_arc, AreOpening}

-- One more arc

map_one : {A B : Type 0} (f : A → B) (b : Bool) (a : A) → map f (cond b (a ∷ []) []) ≡ cond b (f a ∷ []) []
map_one f true a = refl
map_one f false a = refl

abbrev unranked : List Entry → List Entry → Row
unranked out inn = record { out = out; inn = inn; rank = None }

same_rows : (out out2 inn inn2 : List Entry) → out ≡ out2 → inn ≡ inn2 → unranked out inn ≡ unranked out2 inn2
same_rows out out2 inn inn2 e f = ap (λ es. unranked es inn) e ∙ ap (λ es. unranked out2 es) f

-- the row of one more arc
pub opening-more : (arcs : List Road) (i : ℕ) (d : Road) (x : ℕ) → i < length arcs → opening_row (take (i + 1) arcs) x ≡ with_arc (get_or arcs i d) x (opening_row (take i arcs) x)
unfolding opening_row with_arc
opening-more arcs i d x inside = same_rows _ _ _ _
    (ap (map out_entry) (filter_more (λ r. nat_eq r.from x) arcs i d inside) ∙ map-append out_entry (filter (λ r. nat_eq r.from x) (take i arcs)) _ ∙ ap (λ es. map out_entry (filter (λ r. nat_eq r.from x) (take i arcs)) ++ es) (map_one out_entry _ _))
    (ap (map in_entry) (filter_more (λ r. nat_eq r.to x) arcs i d inside) ∙ map-append in_entry (filter (λ r. nat_eq r.to x) (take i arcs)) _ ∙ ap (λ es. map in_entry (filter (λ r. nat_eq r.to x) (take i arcs)) ++ es) (map_one in_entry _ _))

pub opening-none : (x : ℕ) → opening_row [] x ≡ no_arcs
unfolding opening_row
opening-none x = refl

-- no arcs so far
pub opens_empty : (from nodes : ℕ) (arcs : List Road) (rows : List Row) → arcs ≡ [] → rows ≡ replicate nodes no_arcs → AreOpening arcs from nodes rows
opens_empty from nodes arcs rows none is = record {
  count = ap length is ∙ length-replicate nodes no_arcs;
  rows = λ k inside. ap (λ (rows : List Row). row_at rows k) is ∙ get_or-replicate nodes k no_arcs no_arcs inside ∙ sym (opening-none (from + k)) ∙ ap (λ (arcs : List Road). opening_row arcs (from + k)) (sym none);
}

-- one arc more
pub opens_more : (arcs : List Road) (i : ℕ) (d : Road) (from nodes : ℕ) (old mid new : List Row) → i < length arcs → AreOpening (take i arcs) from nodes old
    → length mid ≡ length old → ((k : ℕ) → k < length old → row_at mid k ≡ with_out (get_or arcs i d) (from + k) (row_at old k))
    → length new ≡ length mid → ((k : ℕ) → k < length mid → row_at new k ≡ with_in (get_or arcs i d) (from + k) (row_at mid k))
    → AreOpening (take (i + 1) arcs) from nodes new
unfolding with_arc
opens_more arcs i d from nodes old mid new inside so_far same out same2 inn = record {
  count = same2 ∙ same ∙ so_far.count;
  rows = λ k within.
      let a : k < length old = omega (arith, within, so_far.count) in
      let b : k < length mid = omega (arith, a, same) in
      inn k b ∙ ap (λ (row : Row). with_in (get_or arcs i d) (from + k) row) (out k a)
      ∙ ap (λ (row : Row). with_arc (get_or arcs i d) (from + k) row) (so_far.rows k within)
      ∙ sym (opening-more arcs i d (from + k) inside);
}

-- the rows of nodes that follow one another
pub opens_both : (arcs : List Road) (from low up high nodes : ℕ) (a b : List Row) → up ≡ from + low → nodes ≡ low + high → AreOpening arcs from low a → AreOpening arcs up high b → AreOpening arcs from nodes (a ++ b)
opens_both arcs from low up high nodes a b is all first second = record {
  count = omega (arith, length-append a b, first.count, second.count, all);
  rows = λ k within. elim (cases_lt k low) [
    | inl below ↦ get_or_append_left a b no_arcs k (omega (arith, below, first.count)) ∙ first.rows k below
    | inr above ↦
        get_or-append_right a b low k no_arcs first.count above
        ∙ second.rows (k - low) (omega (arith, within, all, above))
        ∙ ap (λ n. opening_row arcs n) (omega (arith, is, above))
  ];
}
