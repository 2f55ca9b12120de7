-- The rows of a state show each of its arcs.
use Rattle.std.proofs.Common.{ℕ, ◌≡◌, ◌≢◌, ◌≤◌, ◌⊎◌, true, false, nat_eq, List, [], ◌∷◌, Option, Some, None, Contains, arith, refl, sym, ◌∙◌, ap, subst, inl, inr}
use Rattle.std.proofs.lemmas.Bool.{cases_eq, cases_lt}
use Rattle.std.proofs.lemmas.Bool.Decides.{nat_tests}
use Rattle.std.proofs.lemmas.List.{get_or_past}
use Rattle.ch_cost.specs.declared.cost.Cost.{Cost}
use Rattle.ch_laws.specs.Contraction.{State, StateArc, Before, or_else}
use Rattle.ch_laws.specs.Rows.{Entry, IsPlain, Row, arc_of, arc_to, shown, no_arcs, row_at, arc_by_rows, IsRow, AreRows}
use Rattle.ch_laws.specs.Theorems.{RowsAreState}
use Rattle.ch_laws.specs.Orders.{before_not_both}
use Rattle.ch_laws.specs.Members.{contains_first, contains_later, contains_cases}

-- Entries

-- at an entry for the node, and at one for another
arc_to-first : {y : ℕ} (e : Entry) (es : List Entry) → e.other ≡ y → arc_to y (e ∷ es) ≡ arc_of e
arc_to-first {y} e es same = let test : nat_eq e.other y ≡ true = grind (arith, nat_tests, same) in rw test refl

-- the same where it is for another
arc_to-later : (y : ℕ) (e : Entry) (es : List Entry) → e.other ≢ y → arc_to y (e ∷ es) ≡ arc_to y es
arc_to-later y e es other = let test : nat_eq e.other y ≡ false = grind (arith, nat_tests, other) in rw test refl

-- entries of other nodes have no arc for the node
pub arc_to-none : (y : ℕ) (es : List Entry) → ((e : Entry) → Contains es e → e.other ≢ y) → arc_to y es ≡ None
arc_to-none y [] apart = refl
arc_to-none y (e ∷ es) apart = arc_to-later y e es (apart e (contains_first e es)) ∙ arc_to-none y es (λ d among. apart d (contains_later e es d among))

-- an entry for the node, whose arc is what the list has for it
pub record HasEntry (y : ℕ) (es : List Entry) : Type 0 where
  pub entry : Entry
  pub among : Contains es entry
  pub other : entry.other ≡ y
  pub here : arc_to y es ≡ arc_of entry

-- a list has an entry for the node, or none
pub find_entry : (y : ℕ) (es : List Entry) → HasEntry y es ⊎ ((e : Entry) → Contains es e → e.other ≢ y)
find_entry y [] = inr (λ e among. absurd (omega (arith, among.1)))
find_entry y (e ∷ es) = elim (cases_eq e.other y) [
  | inl same ↦ inl (record { entry = e; among = contains_first e es; other = same; here = arc_to-first e es same })
  | inr other ↦ elim (find_entry y es) [
    | inl found ↦ inl (record { entry = found.entry; among = contains_later e es found.entry found.among; other = found.other; here = arc_to-later y e es other ∙ found.here })
    | inr none ↦ inr (λ d among. elim (contains_cases e es d among) [
      | inl same ↦ subst (λ (d : Entry). d.other ≢ y) same other
      | inr later ↦ none d later
    ])
  ]
]

-- Rows

module _ {s : State} {x y : ℕ} {q r : Row} (row_x : IsRow s x q) (row_y : IsRow s y r) where
  -- what the row of x has for y is the arc, and so is what the row of y has for x
  by_out : HasEntry y q.out → s.arc x y ≡ shown q r x y
  by_out found =
      let here : s.arc x found.entry.other ≡ arc_of found.entry = ((row_x.out found.entry).0 found.among).0 in
      let at_y : s.arc x y ≡ arc_of found.entry = subst (λ n. s.arc x n ≡ arc_of found.entry) found.other here in
      at_y ∙ sym (ap (λ (o : Option StateArc). or_else o (arc_to x r.inn)) found.here)

  -- and so is what the row of y has for x, where that of x has none
  by_inn : arc_to y q.out ≡ None → HasEntry x r.inn → s.arc x y ≡ shown q r x y
  by_inn none found =
      let here : s.arc found.entry.other y ≡ arc_of found.entry = ((row_y.inn found.entry).0 found.among).0 in
      let at_x : s.arc x y ≡ arc_of found.entry = subst (λ n. s.arc n y ≡ arc_of found.entry) found.other here in
      at_x ∙ sym found.here ∙ sym (ap (λ (o : Option StateArc). or_else o (arc_to x r.inn)) none)

  -- where neither has an entry, there is no arc
  not_in_either : ((e : Entry) → Contains q.out e → e.other ≢ y) → ((e : Entry) → Contains r.inn e → e.other ≢ x) → (o : Option StateArc) → s.arc x y ≡ o → o ≡ None
  not_in_either no_out no_inn None here = refl
  not_in_either no_out no_inn (Some arc) here =
      let out : Entry = record { other = y; cost = arc.cost; middle = arc.middle } in
      let into : Entry = record { other = x; cost = arc.cost; middle = arc.middle } in
      let not_x : Before s.order x y → ⊥ = λ b. no_out out ((row_x.out out).1 (here, λ back. before_not_both b back)) refl in
      absurd (no_inn into ((row_y.inn into).1 (here, not_x)) refl)

  -- so the rows show the arc
  pub arc-shown : s.arc x y ≡ shown q r x y
  arc-shown = elim (find_entry y q.out) [
    | inl found ↦ by_out found
    | inr no_out ↦
        let out : arc_to y q.out ≡ None = arc_to-none y q.out no_out in
        elim (find_entry x r.inn) [
          | inl found ↦ by_inn out found
          | inr no_inn ↦
              let inn : arc_to x r.inn ≡ None = arc_to-none x r.inn no_inn in
              not_in_either no_out no_inn (s.arc x y) refl ∙ sym inn ∙ sym (ap (λ (o : Option StateArc). or_else o (arc_to x r.inn)) out)
        ]
  ]

-- All rows

-- a number that is no node has the empty row
empty-row : {bound : Cost} {s : State} → IsPlain bound s → (x : ℕ) → s.nodes ≤ x → IsRow s x no_arcs
empty-row {bound} {s} plain x past = record {
  rank = λ k. (λ none. absurd (cc), λ h. let low = plain.in_range k 0 h.0 in absurd (omega (arith, past, low, h.1)));
  out_rises = λ i j d less low. absurd (omega (arith, low));
  inn_rises = λ i j d less low. absurd (omega (arith, low));
  out = λ e. (λ among. absurd (omega (arith, among.1)), λ h. absurd (omega (arith, past, (plain.arcs x e.other (record { cost = e.cost; middle = e.middle }) h.0).from_in)));
  inn = λ e. (λ among. absurd (omega (arith, among.1)), λ h. absurd (omega (arith, past, (plain.arcs e.other x (record { cost = e.cost; middle = e.middle }) h.0).to_in)));
}

-- so each number has the row that the list has for it
every-row : {bound : Cost} {s : State} {rows : List Row} → IsPlain bound s → AreRows s rows → (x : ℕ) → IsRow s x (row_at rows x)
every-row {bound} {s} {rows} plain are x = elim (cases_lt x s.nodes) [
  | inl low ↦ are.each x low
  | inr past ↦ subst (λ (r : Row). IsRow s x r) (sym (get_or_past rows x no_arcs (omega (arith, past, are.many)))) (empty-row plain x past)
]

-- states with the same nodes, order and arcs are the same
same_state : {nodes : ℕ} (arc : ℕ → ℕ → Option StateArc) (s : State) → nodes ≡ s.nodes → ((x y : ℕ) → s.arc x y ≡ arc x y) → record { nodes = nodes; order = s.order; arc = arc } ≡ s
same_state {nodes} arc s same arcs = λ i. record { nodes = same i; order = s.order; arc = λ x y. (sym (arcs x y)) i }

-- the law of all rows
pub rows_are_state : RowsAreState
unfolding arc_by_rows
rows_are_state bound s rows plain are =
    let every = every-row plain are in
    same_state (λ x y. shown (row_at rows x) (row_at rows y) x y) s are.many (λ x y. arc-shown (every x) (every y))
