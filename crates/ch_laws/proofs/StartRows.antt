-- Rows of least arcs show the state before any contraction.
use Rattle.std.proofs.Common.{ℕ, ◌≡◌, ◌≢◌, ◌<◌, ◌≤◌, List, [], length, Option, Some, None, Contains, arith, refl, sym, ◌∙◌, ap, subst, inl, inr}
use Rattle.std.proofs.lemmas.Bool.{cases_lt}
use Rattle.std.proofs.lemmas.List.{get_or_past}
use Rattle.ch_cost.specs.Cost.Laws.{at_most_antisym}
use Rattle.ch_graph.specs.Graph.{Graph}
use Rattle.ch_graph.specs.Limits.{IsGraph}
use Rattle.ch_graph.specs.LeastArcs.{IsLeastArc}
use Rattle.ch_graph.specs.Limits.Laws.{arc-sound}
use Rattle.ch_laws.specs.Contraction.{StateArc, Before, IsStartArc, IsStart, or_else}
use Rattle.ch_laws.specs.Rows.{Entry, Row, arc_of, arc_to, shown, no_arcs, row_at, arc_by_rows, state_by, IsRow, IsStartRow}
use Rattle.ch_laws.specs.Theorems.{RowsStart}
use Rattle.ch_laws.proofs.FirstState.{least_arc}
use Rattle.ch_laws.proofs.SoundStates.{start-sound, sound-plain}
use Rattle.ch_laws.proofs.RowsShown.{HasEntry, find_entry, arc_to-none}

-- nothing comes before anything in the empty order
none_before : {x y : ℕ} → Before [] x y → ⊥
none_before b = omega (arith, b.within)

-- the empty row is that of a number that is no node
no_start-row : {g : Graph} → IsGraph g → (x : ℕ) → g.nodes ≤ x → IsStartRow g x (no_arcs)
no_start-row {g} is x past = record {
  rank = refl;
  out_rises = λ i j d less low. absurd (omega (arith, low));
  inn_rises = λ i j d less low. absurd (omega (arith, low));
  out = λ e. (λ among. absurd (omega (arith, among.1)), λ h. absurd (omega (arith, past, (arc-sound g is x e.other e.cost h.1.0).from_in)));
  inn = λ e. (λ among. absurd (omega (arith, among.1)), λ h. absurd (omega (arith, past, (arc-sound g is e.other x e.cost h.1.0).to_in)));
}

-- two entries for the same least arc describe the same arc
one_least : {g : Graph} {x y : ℕ} (d e : Entry) → IsLeastArc g x y d.cost → IsLeastArc g x y e.cost → d.middle ≡ None → e.middle ≡ None → arc_of d ≡ arc_of e
one_least d e first second d_whole e_whole =
    let costs : d.cost ≡ e.cost = at_most_antisym (first.1 e.cost second.0) (second.1 d.cost first.0) in
    let middles : d.middle ≡ e.middle = d_whole ∙ sym e_whole in
    λ i. Some (record { cost = costs i; middle = middles i })

module _ {g : Graph} (rows : List Row) (is : IsGraph g) (each : (x : ℕ) → IsStartRow g x (row_at rows x)) where
  -- the entry that a row has for another node
  entry-least : {x y : ℕ} → x ≢ y → (found : HasEntry y (row_at rows x).out) → IsStartArc g x y (arc_of found.entry)
  entry-least {x} {y} apart found =
      let least = ((each x).out found.entry).0 found.among in
      (subst (λ n. IsLeastArc g x n found.entry.cost) found.other least.1, least.2)

  -- the same of the row of the second node
  entry-least_into : {x y : ℕ} → x ≢ y → (found : HasEntry x (row_at rows y).inn) → IsStartArc g x y (arc_of found.entry)
  entry-least_into {x} {y} apart found =
      let least = ((each y).inn found.entry).0 found.among in
      (subst (λ n. IsLeastArc g n y found.entry.cost) found.other least.1, least.2)

  -- without an entry there is no arc
  no_entry : {x y : ℕ} → x ≢ y → ((e : Entry) → Contains (row_at rows x).out e → e.other ≢ y) → (o : Option StateArc) → IsStartArc g x y o → IsStartArc g x y None
  no_entry apart none None is_none = is_none
  no_entry {x} {y} apart none (Some arc) least = absurd (none (record { other = y; cost = arc.cost; middle = None }) (((each x).out (record { other = y; cost = arc.cost; middle = None })).1 (apart, least.0, refl)) refl)

  -- so what the rows show is the least arc
  shown-least : (x y : ℕ) → x ≢ y → IsStartArc g x y (shown (row_at rows x) (row_at rows y) x y)
  shown-least x y apart =
      let into : Option StateArc = arc_to x (row_at rows y).inn in
      elim (find_entry y (row_at rows x).out) [
        | inl found ↦ subst (λ (o : Option StateArc). IsStartArc g x y (or_else o into)) (sym found.here) (entry-least apart found)
        | inr no_out ↦
            let out : arc_to y (row_at rows x).out ≡ None = arc_to-none y (row_at rows x).out no_out in
            subst (λ (o : Option StateArc). IsStartArc g x y (or_else o into)) (sym out) (elim (find_entry x (row_at rows y).inn) [
              | inl found ↦ subst (λ (o : Option StateArc). IsStartArc g x y o) (sym found.here) (entry-least_into apart found)
              | inr no_inn ↦ subst (λ (o : Option StateArc). IsStartArc g x y o) (sym (arc_to-none x (row_at rows y).inn no_inn)) (no_entry apart no_out (least_arc g x y).0 (least_arc g x y).1)
            ])
      ]

  -- no row has an entry for its own node
  shown-loop : (x : ℕ) → shown (row_at rows x) (row_at rows x) x x ≡ None
  shown-loop x =
      let out : arc_to x (row_at rows x).out ≡ None = arc_to-none x (row_at rows x).out (λ e among same. (((each x).out e).0 among).0 (sym same)) in
      let inn : arc_to x (row_at rows x).inn ≡ None = arc_to-none x (row_at rows x).inn (λ e among same. (((each x).inn e).0 among).0 (sym same)) in
      ap (λ (o : Option StateArc). or_else o (arc_to x (row_at rows x).inn)) out ∙ inn

  -- what is shown is what the entry says, where it is an entry
  shown-entry : (x y : ℕ) → x ≢ y → (e : Entry) → IsLeastArc g x y e.cost × (e.middle ≡ None) → (o : Option StateArc) → IsStartArc g x y o → o ≡ arc_of e
  shown-entry x y apart e least None none = absurd (none e.cost least.0.0)
  shown-entry x y apart e least (Some arc) is_least = one_least (record { other = y; cost = arc.cost; middle = arc.middle }) e is_least.0 least.0 is_least.1 least.1

  -- and where it is shown the entry says so
  entry-of_shown : (x y : ℕ) (e : Entry) → shown (row_at rows x) (row_at rows y) x y ≡ arc_of e → (x ≢ y) × IsLeastArc g x y e.cost × (e.middle ≡ None)
  entry-of_shown x y e here =
      let apart : x ≢ y = λ same.
      let loop : shown (row_at rows x) (row_at rows y) x y ≡ None = subst (λ n. shown (row_at rows x) (row_at rows n) x n ≡ None) same (shown-loop x) in
      absurd (cc) in
      let least : IsStartArc g x y (arc_of e) = subst (λ (o : Option StateArc). IsStartArc g x y o) here (shown-least x y apart) in
      (apart, least.0, least.1)

  -- so each row is a row of the state
  start-row : (x : ℕ) → IsRow (state_by rows []) x (row_at rows x)
  unfolding arc_by_rows
  start-row x = record {
    rank = λ k. (λ some. let none : (row_at rows x).rank ≡ None = (each x).rank in absurd (cc), λ h. absurd (omega (arith, h.0)));
    out_rises = (each x).out_rises;
    inn_rises = (each x).inn_rises;
    out = λ e. (
      λ among.
          let least = ((each x).out e).0 among in
          (shown-entry x e.other least.0 e (least.1, least.2) (shown (row_at rows x) (row_at rows e.other) x e.other) (shown-least x e.other least.0), none_before),
      λ h. ((each x).out e).1 (entry-of_shown x e.other e h.0),
    );
    inn = λ e. (
      λ among.
          let least = ((each x).inn e).0 among in
          let apart : e.other ≢ x = λ same. least.0 (sym same) in
          (shown-entry e.other x apart e (least.1, least.2) (shown (row_at rows e.other) (row_at rows x) e.other x) (shown-least e.other x apart), none_before),
      λ h.
          let least = entry-of_shown e.other x e h.0 in
          ((each x).inn e).1 (λ same. least.0 (sym same), least.1, least.2),
    );
  }

-- every number has its row
every-start_row : {g : Graph} → IsGraph g → (rows : List Row) → length rows ≡ g.nodes → ((x : ℕ) → x < g.nodes → IsStartRow g x (row_at rows x)) → (x : ℕ) → IsStartRow g x (row_at rows x)
every-start_row {g} is rows many are x = elim (cases_lt x g.nodes) [
  | inl low ↦ are x low
  | inr past ↦ subst (λ (r : Row). IsStartRow g x r) (sym (get_or_past rows x (no_arcs) (omega (arith, past, many)))) (no_start-row is x past)
]

-- the law of rows at the start
pub rows_start : RowsStart
unfolding arc_by_rows
rows_start g rows is many are =
    let each = every-start_row is rows many are in
    let start : IsStart g (state_by rows []) = record { nodes = many; order = refl; loops = shown-loop rows is each; arcs = shown-least rows is each } in
    (start, record { many = refl; each = λ x low. start-row rows is each x }, sound-plain (start-sound is start))
